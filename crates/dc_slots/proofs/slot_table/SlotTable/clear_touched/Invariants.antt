use Rattle.std.proofs.Common.{◌≡◌, [], length}
use Rattle.dc_slots.proofs.slot_table.SlotTable.clear_touched.Given as goal

abbrev pub invariant-loop : goal.invariant-loop
invariant-loop g l = record l.self { touched = [] } ≡ record l.initial.self { touched = [] }

abbrev pub decreases-loop : goal.decreases-loop
decreases-loop g l = length l.self.touched
