use Rattle.dc_slots.proofs.OperationLemmas.{none_seen}
use Rattle.dc_slots.proofs.slot_table.SlotTable.new.Goals as goal

pub invariant_of-result : goal.invariant_of-result
invariant_of-result g c = (none_seen c.new.result c.new-2.result c.new-3.result c.new.ensures c.new-2.ensures c.new-3.ensures).sound

pub returns : goal.returns
returns g c = (none_seen c.new.result c.new-2.result c.new-3.result c.new.ensures c.new-2.ensures c.new-3.ensures).shown
