use Rattle.std.proofs.Common.{◌≡◌, take, true}
use Rattle.std.specs.List.{list_all}
use Rattle.dc_text.specs.Maps.{set_of}
use Rattle.dc_text.specs.Names.{is_name}
use Rattle.dc_item.proofs.owners.named.Given as goal

abbrev pub invariant-loop-name : goal.invariant-loop-name
invariant-loop-name l = record {
  so_far : l.set ≡ set_of (take l.name-index l.names);
  good : list_all is_name (take l.name-index l.names) ≡ true;
}
