use Rattle.std.proofs.Common.{◌≡◌, ◌++◌, true}
use Rattle.std.specs.List.{list_all}
use Rattle.dc_text.specs.Names.{is_name}
use Rattle.dc_item.specs.Owners.{owners_left}
use Rattle.dc_item.proofs.owners.names_of.Given as goal

abbrev pub invariant-loop-owner : goal.invariant-loop-owner
invariant-loop-owner l = record {
  named : list_all is_name (owners_left l.owner-iterator) ≡ true;
  so_far : l.names ++ owners_left l.owner-iterator ≡ owners_left l.owners;
}
