-- Text in the columns of a terminal.
use Rattle.std.specs.Prelude.{ℕ, Bool, true, false, ◌==◌, nat_le, List, [], ◌∷◌, ◌++◌, chars, if◌then◌else◌}
use Rattle.std.specs.List.{flat_map, slice_split}
use Rattle.std.specs.Str.Lossy.{utf8_lossy}
use Rattle.unicode_width.specs.Width.{str_width}
use Rattle.dc_text.specs.Ascii.{space}
use Rattle.dc_text.specs.Lines.{lines_of}
use Rattle.dc_words.specs.Words.{some_word}

-- the columns that a text takes, with U+FFFD for what isn't UTF-8
abbrev pub columns_of : List ℕ → ℕ
columns_of text = str_width false (chars (utf8_lossy text))

-- the words of a line, which spaces part
abbrev pub spaced_words : List ℕ → List (List ℕ)
spaced_words line = flat_map some_word (slice_split (λ byte. byte == space) line)

-- a line with one word more
abbrev pub with_word : List ℕ → List ℕ → List ℕ
with_word line word = line ++ space ∷ word

-- A line that was begun, and words, as lines: a word stands on the line where both take no more than the columns, and else begins the
-- next.
abbrev pub filled : ℕ → List ℕ → List (List ℕ) → List (List ℕ)
filled columns line [] = line ∷ []
filled columns line (word ∷ words) =
    if nat_le (columns_of (with_word line word)) columns then filled columns (with_word line word) words
    else line ∷ filled columns word words

-- words as lines
abbrev pub paragraph : ℕ → List (List ℕ) → List (List ℕ)
paragraph columns [] = []
paragraph columns (word ∷ words) = filled columns word words

-- a line that stays as it is: an empty one, and one that begins with a space
abbrev pub is_verbatim : List ℕ → Bool
is_verbatim [] = true
is_verbatim (byte ∷ bytes) = byte == space

abbrev pub wrapped_line : ℕ → List ℕ → List (List ℕ)
wrapped_line columns line = if is_verbatim line then line ∷ [] else paragraph columns (spaced_words line)

-- a text in so many columns, as lines
abbrev pub wrapped : ℕ → List ℕ → List (List ℕ)
wrapped columns text = flat_map (wrapped_line columns) (lines_of (utf8_lossy text))
