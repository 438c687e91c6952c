-- The printed text of templates.
use Rattle.std.specs.Prelude.{ℕ, ◌||◌, List, [], ◌∷◌, ◌++◌, map as each, Option, Some, None, codes, if◌then◌else◌}
use Rattle.std.specs.List.{flat_map}
use Rattle.std.specs.Str.{bytes_eq}
use Rattle.std.specs.FinMap as map
use Rattle.dc_text.specs.Ascii.{colon, space}
use Rattle.dc_text.specs.Bytes.{capital}
use Rattle.dc_text.specs.Lines.{text_of}
use Rattle.dc_text.specs.Maps.{Texts}
use Rattle.dc_template.specs.Kinds.{kind_word}
use Rattle.dc_template.specs.Forms.{type_word, is_description, is_extended}
use Rattle.dc_template.specs.Stanzas.{Stanza, field_map, extended_key, lines_between_newlines, row_line}

-- `Key: V`, and `Key:` where the value is empty
abbrev pub field_line : List ℕ → List ℕ → List ℕ
field_line key [] = capital key ++ colon ∷ []
field_line key (byte ∷ value) = capital key ++ colon ∷ space ∷ byte ∷ value

-- the indented lines of an extended description, where there is one
abbrev pub extended_lines : Option (List ℕ) → List (List ℕ)
extended_lines None = []
extended_lines (Some text) = each row_line (lines_between_newlines text)

-- the line of a field, and under a description its extended text; `type` has its line at the top
abbrev pub field_lines : Texts (List ℕ) → List ℕ × List ℕ → List (List ℕ)
field_lines fields (key, value) =
    if bytes_eq key type_word || is_extended key then []
    else field_line key value ∷ (if is_description key then extended_lines (map.get fields (extended_key key)) else [])

-- the lines of a template, and an empty one
abbrev pub template_lines : Stanza → List (List ℕ)
template_lines t =
    (codes "Template: " ++ t.name) ∷ (codes "Type: " ++ kind_word t.kind) ∷ flat_map (field_lines (field_map t)) t.fields ++ [] ∷ []

-- the printed text of the templates
abbrev pub canon : List Stanza → List ℕ
canon templates = text_of (flat_map template_lines templates)

abbrev pub names : List Stanza → List (List ℕ)
names templates = each (λ t. t.name) templates
