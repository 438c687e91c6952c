-- An item: the value of a question or of a template.
use Rattle.std.specs.Prelude.{◌≡◌, ℕ, List, Some, true, refl, map as each}
use Rattle.std.specs.Coded.{Coded, code_by, coded×, coded_ℕ, coded_list}
use base.Stored.{coded_unit}
use Rattle.std.specs.FinMap as map
use Rattle.dc_text.specs.Maps.{Texts, TextSet}
use Rattle.dc_text.specs.Names.{is_name, is_field_key, is_flag_name, is_variable_key}
use Rattle.dc_text.specs.Settled.{is_settled}

-- an item is four things: its fields, the flags that are true, its variables and its owners
pub record ItemParts : Type 0 where
  pub fields : Texts (List ℕ)
  pub flags : TextSet
  pub variables : Texts (List ℕ)
  pub owners : TextSet

-- the item in which nothing stands
abbrev pub no_parts : ItemParts
no_parts = record { fields = map.empty; flags = map.empty; variables = map.empty; owners = map.empty }

-- the item with a field, in the place of one with its key
abbrev pub with_field : ItemParts → List ℕ → List ℕ → ItemParts
with_field item key value = record item { fields = map.insert item.fields key value }

-- with a variable
abbrev pub with_variable : ItemParts → List ℕ → List ℕ → ItemParts
with_variable item key value = record item { variables = map.insert item.variables key value }

-- without a field and a flag
abbrev pub without_both : ItemParts → List ℕ → List ℕ → ItemParts
without_both item field flag = record item { fields = map.remove item.fields field; flags = map.remove item.flags flag }

-- What every item keeps: its keys, flags and owners are such that can be written, and its values are settled.
pub record IsItem (parts : ItemParts) : Type 0 where
  pub fields : (key value : List ℕ) → map.get parts.fields key ≡ Some value → (is_field_key key ≡ true) × (is_settled value ≡ true)
  pub flags : (flag : List ℕ) → map.contains_key parts.flags flag ≡ true → is_flag_name flag ≡ true
  pub variables : (key value : List ℕ) → map.get parts.variables key ≡ Some value → (is_variable_key key ≡ true) × (is_settled value ≡ true)
  pub owners : (owner : List ℕ) → map.contains_key parts.owners owner ≡ true → is_name owner ≡ true

-- a set of texts and a map of texts as data
abbrev pub set_code : Coded TextSet
set_code = map.code (coded_list coded_ℕ) coded_unit

abbrev texts_code : Coded (Texts (List ℕ))
texts_code = map.code (coded_list coded_ℕ) (coded_list coded_ℕ)

-- an item as data: its four parts
abbrev pub parts_code : Coded ItemParts
parts_code =
    code_by (Texts (List ℕ) × (TextSet × (Texts (List ℕ) × TextSet))) (coded× texts_code (coded× set_code (coded× texts_code set_code)))
    (λ p. (p.fields, (p.flags, (p.variables, p.owners)))) (λ q. record { fields = q.0; flags = q.1.0; variables = q.1.1.0; owners = q.1.1.1 }) (λ _. refl)

-- each name as an entry of which it is the key and the value
abbrev pub selves : List (List ℕ) → List (List ℕ × List ℕ)
selves names = each (λ name. (name, name)) names
