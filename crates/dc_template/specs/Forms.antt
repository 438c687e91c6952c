-- What one line of a template file says, wherever it stands.
use Rattle.std.specs.Prelude.{ℕ, ◌+◌, Bool, false, not, ◌&&◌, ◌||◌, ◌==◌, nat_eq, nat_le, nat_lt, List, [], ◌∷◌, ◌++◌, length, map, drop, codes, if◌then◌else◌}
use Rattle.std.specs.List.{list_any, take_while, before_first, after_first, starts_with}
use Rattle.std.specs.Str.{bytes_eq}
use Rattle.dc_text.specs.Ascii.{tab, space, hash, dash, colon}
use Rattle.dc_text.specs.Bytes.{is_space, is_blank, is_indented, trimmed, drop_back, lower}
use Rattle.dc_text.specs.Names.{is_name, is_field_key}
use Rattle.dc_text.specs.Lines.{lines_of}
use Rattle.dc_template.specs.declared.forms.Row.{Row}
use Rattle.dc_template.specs.declared.forms.Row.TheVariants.{Empty, Flowing, Kept}
use Rattle.dc_template.specs.declared.forms.Form.{Form}
use Rattle.dc_template.specs.declared.forms.Form.TheVariants.{Blank, Indented, Colonless, Unkeyed, Unnamed, Heads, Sets}
use Rattle.dc_template.specs.declared.forms.Line.{Line}

-- ---- indented lines

-- the spaces and tabs at the front
abbrev pub indentation : List ℕ → List ℕ
indentation line = take_while (λ byte. byte == space || byte == tab) line

-- without the first byte, and without whitespace at the end
abbrev pub row_text : List ℕ → List ℕ
row_text line = drop_back is_space (drop 1 line)

-- Two or more bytes of indentation keep a line as it is. With one byte, `.` stands for an empty line, and any other text
-- flows on.
abbrev pub row_of : List ℕ → Row
row_of line =
    if nat_le 2 (length (indentation line)) then Kept (row_text line)
    else if bytes_eq (trimmed line) (codes ".") then Empty
    else Flowing (row_text line)

-- ---- keys

abbrev pub template_word : List ℕ
template_word = codes "template"

abbrev pub type_word : List ℕ
type_word = codes "type"

-- the key, or the key and a dash with more: the field itself, or the field in a language
abbrev pub is_field_of : List ℕ → List ℕ → Bool
is_field_of field key = bytes_eq key field || starts_with nat_eq key (field ++ dash ∷ [])

abbrev pub is_description : List ℕ → Bool
is_description key = is_field_of (codes "description") key

abbrev pub is_extended : List ℕ → Bool
is_extended key = is_field_of (codes "extended_description") key

-- The key of a line: a field key, but none of an extended description, whose lines are indented. The key of a description
-- leaves room for `extended_` before it.
abbrev pub is_line_key : List ℕ → Bool
is_line_key key = is_field_key key && not (is_extended key || (is_description key && nat_lt 55 (length key)))

-- ---- lines

-- a line by the word before its colon, in lower case, and the trimmed text after it
abbrev pub headed : List ℕ → List ℕ → Form
headed word value =
    if bytes_eq word template_word then (if is_name value then Heads value else Unnamed)
    else if is_line_key word then Sets word value
    else Unkeyed

abbrev pub form_of : List ℕ → Form
form_of line =
    if is_blank line then Blank
    else if is_indented line then Indented (row_of line)
    else if list_any (λ byte. byte == colon) line
    then headed (map lower (before_first (λ byte. byte == colon) line)) (trimmed (after_first (λ byte. byte == colon) line))
    else Colonless

abbrev pub is_comment : List ℕ → Bool
is_comment [] = false
is_comment (byte ∷ bytes) = byte == hash

-- a line and its number, unless it is a comment
abbrev pub line_at : ℕ → List ℕ → List Line
line_at number line = if is_comment line then [] else record { number = number; form = form_of line } ∷ []

-- the lines from this number on, without comments
abbrev pub lines_from : ℕ → List (List ℕ) → List Line
lines_from number [] = []
lines_from number (line ∷ lines) = line_at number line ++ lines_from (number + 1) lines

-- the lines of a text, numbered from 1, without comments
abbrev pub lines_in : List ℕ → List Line
lines_in text = lines_from 1 (lines_of text)

-- what the lines say
abbrev pub forms : List Line → List Form
forms lines = map (λ line. line.form) lines
