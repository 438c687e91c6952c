-- What an operation makes of an item.
use Rattle.std.specs.Prelude.{◌≡◌, ℕ, Bool, true, false, not, ◌&&◌, List, Option, Some, None, if◌then◌else◌}
use Rattle.std.specs.List.{filter}
use Rattle.std.specs.Str.{bytes_eq}
use Rattle.std.specs.Cmp.Lexicographic.{pointwise}
use Rattle.std.specs.FinMap as map
use Rattle.dc_text.specs.Bytes.{is_nil}
use Rattle.dc_text.specs.Maps.{Texts, TextSet, set_of}
use Rattle.dc_item.specs.Item.{ItemParts}
use Rattle.dc_item.specs.declared.op.Op.{Op}
use Rattle.dc_item.specs.declared.op.Op.TheVariants.{Put, SetField, DropField, SetFlag, SetVar, AddOwner, DropOwners}
use Rattle.dc_item.specs.declared.op.After.{After}
use Rattle.dc_item.specs.declared.op.After.TheVariants.{Same, Changed, Gone}
use Rattle.dc_item.specs.declared.effect.Effect.{Effect}
use Rattle.dc_item.specs.declared.effect.Effect.TheVariants as effect

-- a set of flags in which the flag is exactly where it is to be set
abbrev pub with_flag : TextSet → List ℕ → Bool → TextSet
with_flag flags flag true = map.insert flags flag tt
with_flag flags flag false = map.remove flags flag

-- the owners that the list doesn't name
abbrev pub without : TextSet → List (List ℕ) → TextSet
without owners names = map.retain_keys owners (λ owner. not (map.contains_key (set_of names) owner))

-- the item that is asked for
abbrev pub asked : Op → ItemParts → ItemParts
asked (Put item) parts = item
asked (SetField key value) parts = record parts { fields = map.insert parts.fields key value }
asked (DropField key) parts = record parts { fields = map.remove parts.fields key }
asked (SetFlag flag is_set) parts = record parts { flags = with_flag parts.flags flag is_set }
asked (SetVar key value) parts = record parts { variables = map.insert parts.variables key value }
asked (AddOwner name) parts = record parts { owners = map.insert parts.owners name tt }
asked (DropOwners names) parts = record parts { owners = without parts.owners names }

-- whether two entries of a map are the same
abbrev pub entry_eq : {X : Type 0} → (X → X → Bool) → List ℕ × X → List ℕ × X → Bool
entry_eq same a b = bytes_eq a.0 b.0 && same a.1 b.1

-- whether two maps have the same entries
abbrev pub map_eq : {X : Type 0} → (X → X → Bool) → Texts X → Texts X → Bool
map_eq same m n = pointwise (entry_eq same) (map.entries m) (map.entries n)

-- whether two sets have the same members
abbrev pub set_eq : TextSet → TextSet → Bool
set_eq s t = pointwise bytes_eq (map.keys s) (map.keys t)

-- whether all four parts are equal
abbrev pub parts_eq : ItemParts → ItemParts → Bool
parts_eq a b = map_eq bytes_eq a.fields b.fields && (set_eq a.flags b.flags && (map_eq bytes_eq a.variables b.variables && set_eq a.owners b.owners))

-- whether an item that the operation leaves without owners goes
abbrev pub drops_owners : Op → Bool
drops_owners (DropOwners names) = true
drops_owners _ = false

-- what an operation makes of an item
abbrev pub after : Op → ItemParts → After
after op parts =
    if parts_eq (asked op parts) parts then Same
    else if drops_owners op && is_nil (map.keys (asked op parts).owners) then Gone
    else Changed (asked op parts)

-- what it makes where there is no item
abbrev pub after_none : Op → After
after_none (Put item) = Changed item
after_none _ = Same

abbrev pub after_at : Op → Option ItemParts → After
after_at op (Some parts) = after op parts
after_at op None = after_none op

-- what it does to it, without the item that it makes
abbrev pub effect_of : After → Effect
effect_of Same = effect.Same
effect_of (Changed item) = effect.Changed
effect_of Gone = effect.Gone

-- there is an owner, and the operation takes away each of them
abbrev pub TakesAllOwners : Op → ItemParts → Type 0
TakesAllOwners (DropOwners names) parts =
    ((owner : List ℕ) × (map.contains_key parts.owners owner ≡ true))
    × ((owner : List ℕ) → map.contains_key parts.owners owner ≡ true → map.contains_key (set_of names) owner ≡ true)
TakesAllOwners _ parts = ⊥

-- the owners of a list that another list doesn't name
abbrev pub left_of : List (List ℕ) → List (List ℕ) → List (List ℕ)
left_of owners names = filter (λ owner. not (map.contains_key (set_of names) owner)) owners
