-- How a question is put on a terminal.
use Rattle.std.specs.Prelude.{ℕ, List, [], ◌∷◌, ◌++◌, codes, length, option_to_list, if◌then◌else◌}
use Rattle.std.specs.List.{join_by}
use Rattle.std.specs.Str.{bytes_eq}
use Rattle.std.specs.Str.Lossy.{utf8_lossy}
use Rattle.bstr.specs.Text.{repeated}
use Rattle.dc_text.specs.Ascii.{newline, space, dash}
use Rattle.dc_text.specs.Lines.{text_of}
use Rattle.dc_text.specs.Settled.{newlines_shown}
use Rattle.dc_words.specs.Choices.{choices_of}
use Rattle.dc_template.specs.declared.kinds.Kind.{Kind}
use Rattle.dc_template.specs.declared.kinds.Kind.TheVariants.{Str, Bool as Boolean, Select, Multiselect, Note, Txt, Error, Title}
use Rattle.dc_frontend.specs.declared.shown.Shown.{Shown}
use Rattle.dc_teletype.specs.Columns.{columns_of, wrapped}
use Rattle.dc_teletype.specs.Keys.{numerals, beside, all_beside}

-- the columns of the dialogue
abbrev pub columns : ℕ
columns = 76

-- the lines of a text, with newlines between
abbrev pub in_columns : List ℕ → List ℕ
in_columns text = join_by (λ line. line) (newline ∷ []) (wrapped columns text)

-- A title over as many dashes as it has columns, and an empty line. There is none where the title is empty.
abbrev pub heading : List ℕ → List ℕ
heading [] = []
heading (byte ∷ bytes) =
    utf8_lossy (byte ∷ bytes) ++ newline ∷ repeated (columns_of (byte ∷ bytes)) (dash ∷ []) ++ newline ∷ newline ∷ []

-- what more is said of a question, and an empty line, where there is anything
abbrev pub explanation : List ℕ → List ℕ
explanation [] = []
explanation (byte ∷ bytes) = text_of (wrapped columns (byte ∷ bytes)) ++ newline ∷ []

-- each label on a line, behind its number
abbrev pub labels_with : List (List ℕ) → List (List ℕ) → List ℕ
labels_with [] labels = []
labels_with (numeral ∷ numerals) [] = []
labels_with (numeral ∷ numerals) (label ∷ labels) =
    codes "  " ++ numeral ++ codes ". " ++ utf8_lossy label ++ newline ∷ labels_with numerals labels

-- the labels, and an empty line, where there are any
abbrev pub menu : List (List ℕ) → List ℕ
menu [] = []
menu (label ∷ labels) = labels_with (numerals (length (label ∷ labels))) (label ∷ labels) ++ newline ∷ []

-- only what has choices has a menu
abbrev pub menu_of : Kind → List (List ℕ) → List ℕ
menu_of Select labels = menu labels
menu_of Multiselect labels = menu labels
menu_of kind labels = []

-- what stands before the prompt of a question
abbrev pub introduction : Shown → List ℕ
introduction shown = explanation shown.extended ++ menu_of shown.kind shown.labels

-- how a value is told: a string as it is, a boolean by yes or no, and choices by their numbers
abbrev pub value_text : Kind → List (List ℕ) → List ℕ → List ℕ
value_text Str choices value = utf8_lossy (newlines_shown value)
value_text Boolean choices value =
    if bytes_eq value (codes "true") then codes "yes" else if bytes_eq value (codes "false") then codes "no" else []
value_text Select choices value =
    join_by (λ numeral. numeral) (space ∷ []) (option_to_list (beside choices (numerals (length choices)) value))
value_text Multiselect choices value =
    join_by (λ numeral. numeral) (space ∷ []) (all_beside choices (numerals (length choices)) (choices_of value))
value_text kind choices value = []

-- brackets and a space around what isn't empty
abbrev pub bracketed : List ℕ → List ℕ
bracketed [] = []
bracketed (byte ∷ bytes) = codes "[" ++ (byte ∷ bytes) ++ codes "] "

-- a space behind what isn't empty
abbrev pub spaced : List ℕ → List ℕ
spaced [] = []
spaced (byte ∷ bytes) = (byte ∷ bytes) ++ space ∷ []

-- what is answered by a line, and what is only read
abbrev pub asking : List ℕ → List ℕ → List ℕ
asking description told = spaced (in_columns description) ++ bracketed told

abbrev pub telling : List ℕ → List ℕ
telling description = in_columns description ++ newline ∷ codes "[Press enter] "

abbrev pub prompt_by : Kind → List ℕ → List ℕ → List ℕ
prompt_by Note description told = telling description
prompt_by Txt description told = telling description
prompt_by Error description told = telling description
prompt_by Title description told = telling description
prompt_by kind description told = asking description told

-- the prompt, behind which the user types
abbrev pub prompt : Shown → List ℕ
prompt shown = prompt_by shown.kind shown.description (value_text shown.kind shown.choices shown.value)
