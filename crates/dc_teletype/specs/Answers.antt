-- How a line answers a question.
use Rattle.std.specs.Prelude.{ℕ, List, [], ◌∷◌, Bool, ◌&&◌, ◌||◌, ◌==◌, ◌-◌, not, take, Option, None, Some, codes, length, map as each, if◌then◌else◌}
use Rattle.std.specs.Option.{option_or}
use Rattle.std.specs.List.{flat_map, list_all, slice_split, ends_with}
use Rattle.std.specs.Str.{bytes_eq}
use Rattle.dc_text.specs.Ascii.{comma}
use Rattle.dc_text.specs.Bytes.{is_space, is_nil, lower, trimmed}
use Rattle.dc_words.specs.Choices.{joined}
use Rattle.dc_words.specs.Words.{some_word}
use Rattle.dc_template.specs.declared.kinds.Kind.{Kind}
use Rattle.dc_template.specs.declared.kinds.Kind.TheVariants.{Str, Bool as Boolean, Select, Multiselect, Password}
use Rattle.dc_frontend.specs.declared.shown.Shown.{Shown}
use Rattle.dc_teletype.specs.declared.answering.Reading.{Reading}
use Rattle.dc_teletype.specs.declared.answering.Reading.TheVariants.{Back, Keep, Value, Unusable}
use Rattle.dc_teletype.specs.Keys.{numerals, is_one_of, beside, all_beside}

abbrev pub carriage_return : ℕ
carriage_return = 13

-- a line without one carriage return at its end
abbrev pub without_return : List ℕ → List ℕ
without_return line = if ends_with (◌==◌) line (carriage_return ∷ []) then take (length line - 1) line else line

-- two quotes are the empty value, and any other line is the value
abbrev pub text_answer : List ℕ → List ℕ → Reading
text_answer line answer = if bytes_eq answer (codes "\"\"") then Value [] else Value (without_return line)

abbrev pub yes_words : List (List ℕ)
yes_words = codes "y" ∷ codes "yes" ∷ codes "true" ∷ []

abbrev pub no_words : List (List ℕ)
no_words = codes "n" ∷ codes "no" ∷ codes "false" ∷ []

-- an answer in lower case
abbrev pub boolean_answer : List ℕ → Reading
boolean_answer answer =
    if is_one_of yes_words answer then Value (codes "true")
    else if is_one_of no_words answer then Value (codes "false")
    else Unusable

abbrev pub value_or_unusable : Option (List ℕ) → Reading
value_or_unusable None = Unusable
value_or_unusable (Some value) = Value value

-- a number, else a label, stands for its choice
abbrev pub select_answer : List (List ℕ) → List (List ℕ) → List ℕ → Reading
select_answer choices labels answer =
    value_or_unusable (option_or (beside (numerals (length choices)) choices answer) (beside labels choices answer))

-- whitespace and commas
abbrev pub parts : ℕ → Bool
parts byte = is_space byte || byte == comma

-- the words that whitespace and commas part
abbrev pub parted_words : List ℕ → List (List ℕ)
parted_words answer = flat_map some_word (slice_split parts answer)

-- some words, and all of them among these
abbrev pub are_some_of : List (List ℕ) → List (List ℕ) → Bool
are_some_of others words = not (is_nil words) && list_all (is_one_of others) words

-- `none` is the empty value, and numbers stand for their choices
abbrev pub multiselect_answer : List (List ℕ) → List ℕ → Reading
multiselect_answer choices answer =
    if bytes_eq answer (codes "none") then Value []
    else if are_some_of (numerals (length choices)) (parted_words answer) then
    Value (joined (all_beside (numerals (length choices)) choices (parted_words answer)))
    else Unusable

-- a line that isn't blank, and it without whitespace at both ends
abbrev pub answer_by : Kind → List (List ℕ) → List (List ℕ) → List ℕ → List ℕ → Reading
answer_by Str choices labels line answer = text_answer line answer
answer_by Password choices labels line answer = text_answer line answer
answer_by Boolean choices labels line answer = boolean_answer (each lower answer)
answer_by Select choices labels line answer = select_answer choices labels answer
answer_by Multiselect choices labels line answer = multiselect_answer choices answer
answer_by kind choices labels line answer = Keep

-- What a line answers. Where the confmodule can back up, `<` asks for that; a blank line keeps the value.
abbrev pub answer_to : Shown → Bool → List ℕ → Reading
answer_to shown backup line =
    if backup && bytes_eq (trimmed line) (codes "<") then Back
    else if is_nil (trimmed line) then Keep
    else answer_by shown.kind shown.choices shown.labels line (trimmed line)
