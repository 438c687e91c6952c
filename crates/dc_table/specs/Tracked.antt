-- A table of items, and what its operations make of it.
use Rattle.std.specs.Prelude.{ℕ, Bool, true, false, List, [], ◌∷◌, ◌++◌, refl, if◌then◌else◌}
use Rattle.std.specs.List.{list_any}
use Rattle.std.specs.Str.{bytes_eq}
use Rattle.std.specs.FinMap as map
use Rattle.std.specs.Coded.{Coded, code_by, coded×, coded_list, coded_ℕ}
use Rattle.dc_text.specs.Maps.{Texts}
use Rattle.dc_item.specs.Item.{ItemParts, parts_code}
use Rattle.dc_item.specs.declared.op.Op.{Op}
use Rattle.dc_item.specs.declared.op.Op.TheVariants.{Put}
use Rattle.dc_item.specs.declared.op.After.{After}
use Rattle.dc_item.specs.declared.op.After.TheVariants.{Same, Changed, Gone}

-- a table: a finite map from names to items
abbrev pub Table : Type 0
Table = Texts ItemParts

-- a table as data
abbrev pub table_code : Coded Table
table_code = map.code (coded_list coded_ℕ) parts_code

-- the operation makes an item where there is none
abbrev pub is_put : Op → Bool
is_put (Put item) = true
is_put _ = false

-- the names with this one, last, unless it is among them
abbrev pub touch : List (List ℕ) → List ℕ → List (List ℕ)
touch names name = if list_any (bytes_eq name) names then names else names ++ name ∷ []

-- the names of the items that have the owner, in byte order
abbrev pub owned_in : List (List ℕ × ItemParts) → List ℕ → List (List ℕ)
owned_in [] owner = []
owned_in (entry ∷ entries) owner = if map.contains_key entry.1.owners owner then entry.0 ∷ owned_in entries owner else owned_in entries owner

abbrev pub owned : Table → List ℕ → List (List ℕ)
owned table owner = owned_in (map.entries table) owner

-- items by their names, and the names whose items changed, in the order in which they first did
pub record Tracked : Type 0 where
  pub items : Table
  pub touched : List (List ℕ)

-- items and names as data
abbrev pub tracked_code : Coded Tracked
tracked_code =
    code_by (Table × List (List ℕ)) (coded× table_code (coded_list (coded_list coded_ℕ))) (λ t. (t.items, t.touched)) (λ p. record { items = p.0; touched = p.1 }) (λ _. refl)

-- with what became of the item of the name; all other names keep theirs
abbrev pub with_made : Tracked → List ℕ → After → Tracked
with_made tracked name Same = tracked
with_made tracked name (Changed item) = record { items = map.insert tracked.items name item; touched = touch tracked.touched name }
with_made tracked name Gone = record { items = map.remove tracked.items name; touched = touch tracked.touched name }
