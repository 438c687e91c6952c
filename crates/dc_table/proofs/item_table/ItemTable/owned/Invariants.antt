use Rattle.std.proofs.Common.{◌≡◌, ◌++◌, true, drop, map as each}
use Rattle.std.specs.List.{list_all}
use Rattle.dc_text.specs.Names.{is_name}
use Rattle.dc_table.specs.Tracked.{owned, owned_in}
use Rattle.dc_table.proofs.TableLemmas.{firsts}
use Rattle.dc_table.proofs.item_table.ItemTable.owned.Given as goal

abbrev pub invariant-loop-name : goal.invariant-loop-name
invariant-loop-name l = record {
  so_far : l.names ++ owned_in (each (λ e. (e.0.now, e.1.now)) (drop l.name-index l.name-items)) l.owner ≡ owned l.self.items l.owner;
  named : list_all is_name (firsts (each (λ e. (e.0.now, e.1.now)) (drop l.name-index l.name-items))) ≡ true;
}
