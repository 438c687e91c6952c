use Rattle.dc_slots.proofs.ThreadLemmas.{none_threaded}
use Rattle.dc_slots.proofs.slot_vector.SlotVector.new.Goals as goal

pub invariant_of-result : goal.invariant_of-result
invariant_of-result g c = none_threaded c.new.result.slots c.new.ensures.empty
