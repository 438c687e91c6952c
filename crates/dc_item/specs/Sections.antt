-- Texts whose keys begin with a mark, and the section of a mark: what stands under it.
use Rattle.std.specs.Prelude.{◌≡◌, ℕ, Bool, true, false, ◌==◌, ◌||◌, ◌&&◌, List, [], ◌∷◌, Some, map as each}
use Rattle.std.specs.List.{filter}
use Rattle.std.specs.FinMap as map
use Rattle.dc_text.specs.Bytes.{is_nil}
use Rattle.dc_text.specs.Maps.{Texts, TextSet, set_of}
use Rattle.dc_item.specs.Item.{ItemParts, IsItem}

-- what the keys of an item's parts begin with, in the order in which a record is printed
abbrev pub fields_mark : ℕ
fields_mark = 0

abbrev pub owners_mark : ℕ
owners_mark = 1

abbrev pub flags_mark : ℕ
flags_mark = 2

abbrev pub variables_mark : ℕ
variables_mark = 3

-- the key begins with the mark
abbrev pub has_mark : ℕ → List ℕ → Bool
has_mark mark [] = false
has_mark mark (first ∷ key) = first == mark

-- the key without the mark
abbrev pub unmarked : List ℕ → List ℕ
unmarked [] = []
unmarked (first ∷ key) = key

-- the entries whose keys begin with the mark, without it
abbrev pub under : ℕ → List (List ℕ × List ℕ) → List (List ℕ × List ℕ)
under mark entries = each (λ entry. (unmarked entry.0, entry.1)) (filter (λ entry. has_mark mark entry.0) entries)

-- their keys
abbrev pub keys_under : ℕ → List (List ℕ × List ℕ) → List (List ℕ)
keys_under mark entries = each (λ entry. entry.0) (under mark entries)

-- the section of a mark: what stands at the keys that begin with it, at the keys without it
unfoldable pub section : ℕ → Texts (List ℕ) → Texts (List ℕ)
section mark texts = map.from_entries (under mark (map.entries texts))

-- the keys of a section, as a set
abbrev pub members : ℕ → Texts (List ℕ) → TextSet
members mark texts = set_of (map.keys (section mark texts))

-- the parts of an item, of which each has its mark
abbrev pub parts_in : Texts (List ℕ) → ItemParts
parts_in texts = record {
  fields = section fields_mark texts;
  flags = members flags_mark texts;
  variables = section variables_mark texts;
  owners = members owners_mark texts;
}

-- A key has one of the marks, and at an owner or a flag nothing stands.
abbrev pub is_part : List ℕ → List ℕ → Bool
is_part [] value = false
is_part (mark ∷ key) value = (mark == fields_mark || mark == variables_mark) || ((mark == owners_mark || mark == flags_mark) && is_nil value)

-- the texts are the parts of an item, and nothing else
abbrev pub IsParts : Texts (List ℕ) → Type 0
IsParts texts = IsItem (parts_in texts) × ((key value : List ℕ) → map.get texts key ≡ Some value → is_part key value ≡ true)
