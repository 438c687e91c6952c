use Rattle.std.proofs.Common.{◌≡◌, take}
use Rattle.std.specs.List.{AllByRecursion}
use Rattle.dc_item.specs.Printed.{canon}
use Rattle.dc_item.specs.Table.{IsEntry}
use Rattle.dc_item.proofs.printing.print_all.Given as goal

abbrev pub invariant-loop-entry : goal.invariant-loop-entry
invariant-loop-entry l = record {
  printed : l.text ≡ canon (take l.entry-index l.entries);
  good : AllByRecursion IsEntry (take l.entry-index l.entries);
}
