-- A template: what the lines of a stanza make.
use Rattle.std.specs.Prelude.{◌≡◌, ℕ, Bool, true, false, not, ◌&&◌, List, [], ◌∷◌, ◌++◌, map as each, drop, Option, Some, None, codes, if◌then◌else◌, ◌==◌}
use Rattle.std.specs.List.{slice_split, AllByRecursion}
use Rattle.std.specs.Str.{bytes_eq}
use Rattle.std.specs.FinMap as map
use Rattle.dc_text.specs.Ascii.{newline, space, dot}
use Rattle.dc_text.specs.Bytes.{is_space, is_blank, is_indented, drop_back, trimmed}
use Rattle.dc_text.specs.Lines.{has_newline}
use Rattle.dc_text.specs.Names.{is_name, is_field_key}
use Rattle.dc_text.specs.Maps.{Texts}
use Rattle.dc_template.specs.Kinds.{kind_word, kind_of}
use Rattle.dc_template.specs.Forms.{template_word, type_word, is_extended, is_line_key, row_of}
use Rattle.dc_template.specs.declared.kinds.Kind.{Kind}
use Rattle.dc_template.specs.declared.forms.Row.{Row}
use Rattle.dc_template.specs.declared.forms.Row.TheVariants.{Empty, Flowing, Kept}
use Rattle.dc_template.specs.declared.forms.Form.{Form}
use Rattle.dc_template.specs.declared.forms.Form.TheVariants.{Indented, Sets}

-- a template's name, kind and fields, `type` among them, in byte order of keys
pub record Stanza : Type 0 where
  pub name : List ℕ
  pub kind : Kind
  pub fields : List (List ℕ × List ℕ)

-- ---- extended descriptions

abbrev pub shown : Row → List ℕ
shown Empty = []
shown (Flowing text) = text
shown (Kept text) = text

-- what parts a line from the one before it: a space where both flow on, and else a newline
abbrev pub parting : Row → Row → ℕ
parting (Flowing text) (Flowing next) = space
parting _ _ = newline

abbrev pub flowed_after : Row → List Row → List ℕ
flowed_after last [] = []
flowed_after last (row ∷ rows) = parting last row ∷ shown row ++ flowed_after row rows

-- the text of a run of indented lines
abbrev pub flowed : List Row → List ℕ
flowed [] = []
flowed (row ∷ rows) = shown row ++ flowed_after row rows

-- the key of a description's extended text
abbrev pub extended_key : List ℕ → List ℕ
extended_key key = codes "extended_" ++ key

-- the key of the description whose extended text this is
abbrev pub described_by : List ℕ → List ℕ
described_by key = drop 9 key

-- the text of the lines under a field, where there are some
abbrev pub extended_text : List Row → Option (List ℕ)
extended_text [] = None
extended_text (row ∷ rows) = Some (flowed (row ∷ rows))

-- ---- the lines of a stanza

-- the unbroken run of indented lines that comes first
abbrev pub rows_first : List Form → List Row
rows_first [] = []
rows_first (Indented row ∷ lines) = row ∷ rows_first lines
rows_first (_ ∷ lines) = []

abbrev pub as_field : List ℕ → Option (List ℕ) → List (List ℕ × List ℕ)
as_field key None = []
as_field key (Some value) = (key, value) ∷ []

-- the fields of a line and those that follow it: a line with a key sets one, and the indented lines under it another
abbrev pub fields_at : Form → List Form → List (List ℕ × List ℕ)
fields_at (Sets key value) after = (key, value) ∷ as_field (extended_key key) (extended_text (rows_first after))
fields_at _ after = []

-- the fields of some lines
abbrev pub fields_in : List Form → List (List ℕ × List ℕ)
fields_in [] = []
fields_in (line ∷ lines) = fields_at line lines ++ fields_in lines

-- the kind that the line with the key `type` names
abbrev pub kind_in : List Form → Option Kind
kind_in [] = None
kind_in (Sets key value ∷ lines) = if bytes_eq key type_word then kind_of value else kind_in lines
kind_in (_ ∷ lines) = kind_in lines

-- the fields of some lines, as a map
abbrev pub fields_of : List Form → Texts (List ℕ)
fields_of lines = map.from_entries (fields_in lines)

-- the template of this name, kind and lines
abbrev pub stanza : List ℕ → Kind → List Form → Stanza
stanza name kind lines = record { name = name; kind = kind; fields = map.entries (fields_of lines) }

-- ---- what each template is

-- a value of one line
pub record IsLine (value : List ℕ) : Type 0 where
  pub trim : trimmed value ≡ value
  pub one : has_newline value ≡ false

-- the texts between newlines
abbrev pub lines_between_newlines : List ℕ → List (List ℕ)
lines_between_newlines text = slice_split (λ byte. byte == newline) text

-- a line of an extended description as it stands in a file: behind a space, and a dot where it is empty
abbrev pub row_line : List ℕ → List ℕ
row_line [] = space ∷ dot ∷ []
row_line (byte ∷ bytes) = space ∷ byte ∷ bytes

-- a line that isn't empty: it isn't blank and doesn't end in whitespace, and where it begins without a blank it isn't a dot
pub record IsTextLine (line : List ℕ) : Type 0 where
  pub solid : is_blank line ≡ false
  pub end : drop_back is_space line ≡ line
  pub dot : is_indented line ≡ false → bytes_eq (trimmed line) (codes ".") ≡ false

-- a line of an extended description
abbrev pub IsExtendedLine : List ℕ → Type 0
IsExtendedLine [] = Unit {0}
IsExtendedLine (byte ∷ bytes) = IsTextLine (byte ∷ bytes)

-- a line that isn't empty and begins without a blank would be joined to one like it
abbrev pub flows_on : List ℕ → Bool
flows_on [] = false
flows_on (byte ∷ bytes) = not (is_indented (byte ∷ bytes))

-- no such lines stand next to each other
abbrev pub NoneFlowTogether : List (List ℕ) → Type 0
NoneFlowTogether [] = Unit {0}
NoneFlowTogether (line ∷ []) = Unit {0}
NoneFlowTogether (line ∷ next ∷ lines) = ((flows_on line && flows_on next) ≡ false) × NoneFlowTogether (next ∷ lines)

-- an extended description
pub record IsExtendedText (text : List ℕ) : Type 0 where
  pub lines : AllByRecursion IsExtendedLine (lines_between_newlines text)
  pub apart : NoneFlowTogether (lines_between_newlines text)

-- what is made of the lines of an extended description as they stand in a file
abbrev pub read_from_rows : List ℕ → List ℕ
read_from_rows text = flowed (each (λ line. row_of (row_line line)) (lines_between_newlines text))

-- a field of a template, among all its fields: an extended description stands beside its description, and any other
-- field is a line
pub record IsFieldAmong (fields : Texts (List ℕ)) (key value : List ℕ) : Type 0 where
  pub is_key : is_field_key key ≡ true
  pub extended : is_extended key ≡ true → (map.contains_key fields (described_by key) ≡ true) × IsExtendedText value
  pub line : is_extended key ≡ false → (bytes_eq key template_word ≡ false) × (is_line_key key ≡ true) × IsLine value

-- the fields as a map
abbrev pub field_map : Stanza → Texts (List ℕ)
field_map t = map.from_entries t.fields

-- what each template is: it has a name, its kind is what `type` says, and its fields are in order and as they should be
pub record IsTemplate (t : Stanza) : Type 0 where
  pub named : is_name t.name ≡ true
  pub typed : map.get (field_map t) type_word ≡ Some (kind_word t.kind)
  pub ordered : map.entries (field_map t) ≡ t.fields
  pub sound : (key value : List ℕ) → map.get (field_map t) key ≡ Some value → IsFieldAmong (field_map t) key value
