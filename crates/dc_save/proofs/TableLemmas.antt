-- Records that go into a table one by one, the last first.
use Rattle.std.proofs.Common.{◌≡◌, ◌≢◌, ℕ, false, cond, List, [], ◌∷◌, ◌++◌, Some, sym, ap, ◌∙◌}
use Rattle.std.specs.Prelude.{is_some}
use Rattle.std.specs.List.{AllByRecursion}
use Rattle.std.specs.Cmp.Lexicographic.{nat_list_cmp_total}
use Rattle.std.specs.FinMap as map
use Rattle.std.specs.FinMap.{get-empty, get-insert}
use Rattle.dc_outside.proofs.DiskLemmas.{same-false}
use Rattle.dc_text.specs.Maps.{AreDistinct, text_cmp}
use Rattle.dc_item.specs.Table.{names_of, table_of}
use Rattle.dc_item.specs.Item.{ItemParts}
use Rattle.dc_item.specs.declared.entry.Entry.{Entry}

not_among : (name : List ℕ) (done : List Entry) → AllByRecursion (λ other. other ≢ name) (names_of done) → map.contains_key (table_of done) name ≡ false
not_among name [] all = ap is_some (get-empty {X = ItemParts} text_cmp name)
not_among name (entry ∷ done) all =
    ap is_some (get-insert nat_list_cmp_total (table_of done) entry.name entry.item name)
    ∙ ap (λ b. is_some (cond b (Some entry.item) (map.get (table_of done) name))) (same-false name entry.name (λ h. all.0 (sym h)))
    ∙ not_among name done all.1

-- the records after one have other names
pub is_new : (left : List Entry) (entry : Entry) (done : List Entry) → AreDistinct (names_of (left ++ entry ∷ done)) → map.contains_key (table_of done) entry.name ≡ false
is_new [] entry done apart = not_among entry.name done apart.0
is_new (other ∷ left) entry done apart = is_new left entry done apart.1
