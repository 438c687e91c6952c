use Rattle.std.proofs.Common.{◌≡◌, ◌++◌, true, map as each}
use Rattle.std.specs.FinMap as fin
use Rattle.std.specs.List.{list_all}
use Rattle.dc_text.specs.Maps.{set_of}
use Rattle.dc_text.specs.Names.{is_name}
use Rattle.dc_item.specs.Owners.{owners_left}
use Rattle.dc_item.proofs.item_builder.ItemBuilder.put_owners_of.Given as goal

abbrev pub invariant-loop-owner : goal.invariant-loop-owner
invariant-loop-owner l = record {
  put : l.self ≡ record l.fn.self { owners = set_of (each (λ name. name.now) l.yielded) };
  left : each (λ name. name.now) l.yielded ++ owners_left l.owner-iterator ≡ fin.keys l.item.owners;
  named : list_all is_name (owners_left l.owner-iterator) ≡ true;
}
