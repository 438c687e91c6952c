use Rattle.std.proofs.Common.{◌≡◌, ◌++◌, true, map as each}
use Rattle.std.specs.List.{list_all}
use Rattle.std.specs.FinMap as map
use Rattle.dc_text.specs.Maps.{set_of}
use Rattle.dc_text.specs.Names.{is_name}
use Rattle.dc_item.proofs.owners.sorted.Given as goal

abbrev pub invariant-loop-name : goal.invariant-loop-name
invariant-loop-name l = record {
  so_far : l.list ++ each (λ e. e.1) l.name-iterator ≡ map.keys (set_of l.names);
  good : list_all is_name l.list ≡ true;
}
