-- The lines by which `set-selections` answers a question again (debconf-get-selections(1)), and whether it can be said by them.
use Rattle.std.specs.Prelude.{ℕ, Bool, false, not, ◌&&◌, ◌==◌, nat_le, List, [], ◌∷◌, ◌++◌, length, is_some, map as each, codes, if◌then◌else◌}
use Rattle.std.specs.Io.BufRead.{ends_with_byte}
use Rattle.std.specs.List.{list_all}
use Rattle.std.specs.Option.{option_map_or}
use Rattle.dc_text.specs.Ascii.{space, hash, backslash}
use Rattle.dc_text.specs.Bytes.{is_nil}
use Rattle.dc_text.specs.Settled.{newlines_shown}
use Rattle.dc_words.specs.Stream.{max_line}
use Rattle.dc_template.specs.Kinds.{kind_word}
use Rattle.dc_template.specs.declared.kinds.Kind.{Kind}
use Rattle.dc_dump.specs.declared.answers.Answer.{Answer}

-- ---- the lines of a question

-- a line: an owner, a name, a word and a value, parted by spaces
abbrev pub line_with : List ℕ → List ℕ → List ℕ → List ℕ → List ℕ
line_with owner name word value = owner ++ (space ∷ (name ++ (space ∷ (word ++ (space ∷ value)))))

-- the line by which a question gets an owner, a kind and a value, each newline of which is shown as the pair
abbrev pub value_line : List ℕ → Kind → List ℕ → List ℕ → List ℕ
value_line name kind value owner = line_with owner name (kind_word kind) (newlines_shown value)

-- the line by which it is not seen any more
abbrev pub unseen_line : List ℕ → List ℕ → List ℕ
unseen_line name owner = line_with owner name (codes "seen") (codes "false")

-- where it wasn't seen, that line of its first owner
abbrev pub unseen_lines : List ℕ → Bool → List (List ℕ) → List (List ℕ)
unseen_lines name seen [] = []
unseen_lines name seen (owner ∷ owners) = if seen then [] else unseen_line name owner ∷ []

-- the lines of a question of this kind: one for each owner, and one more where it wasn't seen
abbrev pub lines_by : List ℕ → Answer → Kind → List (List ℕ)
lines_by name answer kind = each (value_line name kind answer.value) answer.owners ++ unseen_lines name answer.seen answer.owners

-- the lines of a question, of which one without a kind has none
abbrev pub lines_of : List ℕ → Answer → List (List ℕ)
lines_of name answer = option_map_or (lines_by name answer) answer.kind []

-- ---- whether it can be said

-- begins as a comment does
abbrev pub begins_with_hash : List ℕ → Bool
begins_with_hash [] = false
begins_with_hash (byte ∷ bytes) = byte == hash

-- no line of it would be a comment or go on with the next: no owner begins with `#`, and the value doesn't end with a backslash
abbrev pub is_plain : Answer → Bool
is_plain answer = list_all (λ owner. not (begins_with_hash owner)) answer.owners && not (ends_with_byte backslash answer.value)

-- a line that is read whole
abbrev pub is_short : List ℕ → Bool
is_short line = nat_le (length line) max_line

-- a question can be said: it has a kind and an owner, and each of its lines would be read as it is
abbrev pub is_sayable : List ℕ → Answer → Bool
is_sayable name answer =
    is_some answer.kind && (not (is_nil answer.owners) && (is_plain answer && list_all is_short (lines_of name answer)))
