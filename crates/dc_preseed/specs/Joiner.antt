-- What a joiner is, and what it makes of one line after another.
use Rattle.std.specs.Prelude.{ℕ, ◌+◌, Bool, true, nat_le, List, [], ◌∷◌, ◌++◌, length, Option, Some, None, if◌then◌else◌}
use Rattle.std.specs.Option.{option_to_list}
use Rattle.dc_words.specs.Stream.{line_of, max_line}
use Rattle.dc_words.specs.declared.stream.Line.{Line}
use Rattle.dc_words.specs.declared.stream.Line.TheVariants.{Whole, TooLong}
use Rattle.dc_preseed.specs.declared.joining.Joined.{Joined}
use Rattle.dc_preseed.specs.Joining.{goes_on, is_alone, bytes_given, counted}

-- the number of the last line that was taken, and the joined line that goes on, as far as it came
pub record Joining : Type 0 where
  pub count : ℕ
  pub held : Option Joined

-- before the first line
abbrev pub at_start : Joining
at_start = record { count = 0; held = None }

-- no longer than the longest line that is whole
abbrev pub is_short : Line → Bool
is_short (Whole bytes) = nat_le (length bytes) max_line
is_short TooLong = true

-- what is held is
abbrev pub is_bounded : Option Joined → Bool
is_bounded None = true
is_bounded (Some one) = is_short one.whole

-- a line and what a further one gives to it
abbrev pub with_part : Line → Line → Line
with_part (Whole bytes) (Whole more) = line_of (bytes ++ bytes_given (Whole more))
with_part (Whole bytes) TooLong = TooLong
with_part TooLong line = TooLong

abbrev pub continued : Joined → Line → Joined
continued one line = record one { whole = with_part one.whole line }

-- a joined line that begins with a line of this number
abbrev pub begun : ℕ → Line → Joined
begun number line = record { first = number; whole = with_part (Whole []) line }

-- what a joiner is after a line, and the joined line that this line ends, if it ends one
pub record Taken : Type 0 where
  pub joining : Joining
  pub whole : Option Joined

abbrev pub ends : ℕ → Joined → Taken
ends number one = record { joining = record { count = number; held = None }; whole = Some one }

abbrev pub holds : ℕ → Joined → Taken
holds number one = record { joining = record { count = number; held = Some one }; whole = None }

-- a line of this number, behind what is held
abbrev pub taken_behind : Option Joined → ℕ → Line → Taken
taken_behind None number line = if is_alone line then ends number (record { first = number; whole = line }) else holds number (begun number line)
taken_behind (Some one) number line = if goes_on line then holds number (continued one line) else ends number (continued one line)

abbrev pub taken : Joining → Line → Taken
taken joining line = taken_behind joining.held (counted (joining.count + 1)) line

-- ---- one line after another

-- the joined lines that some lines end
abbrev pub given : Joining → List Line → List Joined
given joining [] = []
given joining (line ∷ lines) = option_to_list (taken joining line).whole ++ given (taken joining line).joining lines

-- what the joiner is after them
abbrev pub after : Joining → List Line → Joining
after joining [] = joining
after joining (line ∷ lines) = after (taken joining line).joining lines

-- all joined lines of some lines, where no further ones come
abbrev pub all_joined : List Line → List Joined
all_joined lines = given at_start lines ++ option_to_list (after at_start lines).held
