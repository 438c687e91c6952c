use Rattle.std.proofs.Common.{◌≡◌, ◌++◌, true, drop, map as each}
use Rattle.std.specs.List.{list_all}
use Rattle.std.specs.FinMap as map
use Rattle.dc_text.specs.Names.{is_name}
use Rattle.dc_table.proofs.TableLemmas.{firsts}
use Rattle.dc_table.proofs.item_table.ItemTable.names.Given as goal

abbrev pub invariant-loop-name : goal.invariant-loop-name
invariant-loop-name l = record {
  so_far : l.names ++ firsts (each (λ e. (e.0.now, e.1.now)) (drop l.name-index l.name-items)) ≡ map.keys l.self.items;
  named : list_all is_name (firsts (each (λ e. (e.0.now, e.1.now)) (drop l.name-index l.name-items))) ≡ true;
}
