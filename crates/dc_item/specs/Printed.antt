-- The printed text of records.
use Rattle.std.specs.Prelude.{ℕ, List, [], ◌∷◌, ◌++◌, map as each, codes, if◌then◌else◌}
use Rattle.std.specs.List.{flat_map, join_by}
use Rattle.std.specs.FinMap as map
use Rattle.dc_text.specs.Ascii.{space, colon, equals_sign}
use Rattle.dc_text.specs.Bytes.{capital, is_nil}
use Rattle.dc_text.specs.Lines.{text_of}
use Rattle.dc_text.specs.Maps.{Texts}
use Rattle.dc_text.specs.Settled.{newlines_shown}
use Rattle.dc_item.specs.Item.{ItemParts}
use Rattle.dc_item.specs.Table.{contents}
use Rattle.dc_item.specs.declared.entry.Entry.{Entry}

abbrev pub owners_head : List ℕ
owners_head = codes "Owners: "

abbrev pub flags_head : List ℕ
flags_head = codes "Flags: "

-- `Key: V`
abbrev pub shown_field : List ℕ × List ℕ → List ℕ
shown_field entry = capital entry.0 ++ colon ∷ space ∷ newlines_shown entry.1

-- ` K = V`
abbrev pub shown_variable : List ℕ × List ℕ → List ℕ
shown_variable entry = space ∷ entry.0 ++ space ∷ equals_sign ∷ space ∷ newlines_shown entry.1

-- joined by a comma and a space
abbrev pub joined : List (List ℕ) → List ℕ
joined texts = join_by (λ text. text) (codes ", ") texts

-- the line of a set, where it has a member
abbrev pub list_lines : List ℕ → List (List ℕ) → List (List ℕ)
list_lines head names = if is_nil names then [] else (head ++ joined names) ∷ []

-- the lines of the variables, where there are some
abbrev pub variable_lines : List (List ℕ × List ℕ) → List (List ℕ)
variable_lines entries = if is_nil entries then [] else codes "Variables:" ∷ each shown_variable entries

-- the lines of a record, of this name and item, and an empty one
abbrev pub record_lines : List ℕ × ItemParts → List (List ℕ)
record_lines entry =
    (codes "Name: " ++ entry.0) ∷ each shown_field (map.entries entry.1.fields) ++ list_lines owners_head (map.keys entry.1.owners)
    ++ list_lines flags_head (map.keys entry.1.flags) ++ variable_lines (map.entries entry.1.variables) ++ [] ∷ []

-- the printed text of the records
abbrev pub canon : List Entry → List ℕ
canon entries = text_of (flat_map (λ entry. record_lines (contents entry)) entries)

-- the printed text of a table: its records in byte order of names
abbrev pub table_text : Texts ItemParts → List ℕ
table_text table = text_of (flat_map record_lines (map.entries table))
