-- Lines that go on (debconf-set-selections(1)): one that ends with a backslash is joined with the next. A comment isn't, unless it is
-- itself joined with the line before it.
use Rattle.std.specs.Prelude.{◌≡◌, ℕ, ◌+◌, ◌-◌, ◌^◌, ◌⊎◌, Bool, true, false, not, ◌||◌, List, [], ◌∷◌, ◌++◌, length, min, if◌then◌else◌, ◌==◌}
use Rattle.std.specs.Io.BufRead.{ends_with_byte, strip_last}
use Rattle.std.specs.List.{list_any, flat_map, find}
use Rattle.std.specs.Option.{option_map_or}
use Rattle.dc_text.specs.Ascii.{backslash, hash}
use Rattle.dc_text.specs.Bytes.{is_space}
use Rattle.dc_words.specs.Stream.{line_of, all_lines}
use Rattle.dc_words.specs.declared.stream.Line.{Line}
use Rattle.dc_words.specs.declared.stream.Line.TheVariants.{Whole, TooLong}
use Rattle.dc_preseed.specs.declared.joining.Joined.{Joined}

-- its first byte past whitespace is `#`
abbrev pub is_comment : List ℕ → Bool
is_comment bytes = option_map_or (λ byte. byte == hash) (find (λ byte. not (is_space byte)) bytes) false

-- a line that is joined with the next, where it isn't alone
abbrev pub goes_on : Line → Bool
goes_on (Whole bytes) = ends_with_byte backslash bytes
goes_on TooLong = false

-- a line that is joined with no other, where it doesn't continue one
abbrev pub is_alone : Line → Bool
is_alone (Whole bytes) = is_comment bytes || not (ends_with_byte backslash bytes)
is_alone TooLong = true

-- what a line gives to the one that it is part of: its bytes, without a backslash at the end
abbrev pub bytes_given : Line → List ℕ
bytes_given (Whole bytes) = strip_last backslash bytes
bytes_given TooLong = []

abbrev pub is_too_long : Line → Bool
is_too_long (Whole bytes) = false
is_too_long TooLong = true

-- some lines as one, which is too long where one of them is, or all together
abbrev pub joined : List Line → Line
joined lines = if list_any is_too_long lines then TooLong else line_of (flat_map bytes_given lines)

-- a group of lines as one: a line alone as it is, and others joined
abbrev pub as_one : List Line → Line
as_one [] = joined []
as_one (line ∷ lines) = if is_alone line then line else joined (line ∷ lines)

-- each of the lines but the last goes on, and the last doesn't, unless no line is left
abbrev pub GoOn : List Line → List Line → Type 0
GoOn [] rest = ⊥
GoOn (line ∷ []) rest = (goes_on line ≡ false) ⊎ (rest ≡ [])
GoOn (line ∷ next ∷ lines) rest = (goes_on line ≡ true) × GoOn (next ∷ lines) rest

-- These lines, behind which the rest stands, are one: a line alone, the last line of all, or a line that isn't alone and those that
-- it goes on with.
abbrev pub AreOne : List Line → List Line → Type 0
AreOne [] rest = ⊥
AreOne (line ∷ []) rest = (is_alone line ≡ true) ⊎ (rest ≡ [])
AreOne (line ∷ next ∷ lines) rest = (is_alone line ≡ false) × GoOn (next ∷ lines) rest

-- a number as it is counted, up to the end of its type
abbrev pub counted : ℕ → ℕ
counted number = min number (2 ^ 64 - 1)

-- The lines, of which the first has this number, are these joined ones in turn. Each has the number of its first line.
abbrev pub AreJoined : ℕ → List Line → List Joined → Type 0
AreJoined number lines [] = lines ≡ []
AreJoined number lines (one ∷ others) = (group : List Line) × (rest : List Line) × (lines ≡ group ++ rest) × AreOne group rest
    × (one ≡ record { first = counted number; whole = as_one group }) × AreJoined (number + length group) rest others

-- the text is these joined lines
abbrev pub AreJoinedIn : List ℕ → List Joined → Type 0
AreJoinedIn text all = AreJoined 1 (all_lines text) all
