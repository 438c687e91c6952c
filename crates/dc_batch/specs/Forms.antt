-- What one line of a job text says, wherever it stands.
use Rattle.std.specs.Prelude.{ℕ, ◌+◌, Bool, false, List, [], ◌∷◌, ◌++◌, Option, Some, None, map as each, codes, ◌==◌, if◌then◌else◌}
use Rattle.std.specs.List.{list_any, find, before_first, after_first}
use Rattle.std.specs.Str.{bytes_eq}
use Rattle.dc_text.specs.Ascii.{hash, colon}
use Rattle.dc_text.specs.Bytes.{is_blank, trimmed, lower}
use Rattle.dc_text.specs.Lines.{lines_of}
use Rattle.dc_batch.specs.declared.forms.Field.{Field}
use Rattle.dc_batch.specs.declared.forms.Field.TheVariants.{Package, Templates, Config}
use Rattle.dc_batch.specs.declared.forms.Form.{Form}
use Rattle.dc_batch.specs.declared.forms.Form.TheVariants.{Blank, Colonless, Unknown, Sets}
use Rattle.dc_batch.specs.declared.forms.Line.{Line}

-- the word of each field, in lower case
abbrev pub field_word : Field → List ℕ
field_word Package = codes "package"
field_word Templates = codes "templates"
field_word Config = codes "config"

-- the fields of a stanza
abbrev pub all_fields : List Field
all_fields = Package ∷ Templates ∷ Config ∷ []

-- the field that has this word, read without regard to case
abbrev pub field_of : List ℕ → Option Field
field_of word = find (λ field. bytes_eq (each lower word) (field_word field)) all_fields

-- a line by its field, if there is one, and its value
abbrev pub said : Option Field → List ℕ → Form
said (Some field) value = Sets field value
said None value = Unknown

-- a line: the first colon parts it, and both sides are trimmed
abbrev pub form_of : List ℕ → Form
form_of line =
    if is_blank line then Blank
    else if list_any (λ byte. byte == colon) line
    then said (field_of (trimmed (before_first (λ byte. byte == colon) line))) (trimmed (after_first (λ byte. byte == colon) line))
    else Colonless

-- begins with `#`
abbrev pub is_comment : List ℕ → Bool
is_comment [] = false
is_comment (byte ∷ bytes) = byte == hash

-- a line and its number, unless it is a comment
abbrev pub line_at : ℕ → List ℕ → List Line
line_at number line = if is_comment line then [] else record { number = number; form = form_of line } ∷ []

-- the lines from this number on, without comments
abbrev pub lines_from : ℕ → List (List ℕ) → List Line
lines_from number [] = []
lines_from number (line ∷ lines) = line_at number line ++ lines_from (number + 1) lines

-- the lines of a text, numbered from 1, without comments
abbrev pub lines_in : List ℕ → List Line
lines_in text = lines_from 1 (lines_of text)

-- what the lines say
abbrev pub forms : List Line → List Form
forms lines = each (λ line. line.form) lines
