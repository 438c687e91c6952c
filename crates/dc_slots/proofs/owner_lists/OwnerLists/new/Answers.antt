use Rattle.dc_slots.proofs.LinkLemmas.{none_linked_yet, none_shown}
use Rattle.dc_slots.proofs.owner_lists.OwnerLists.new.Goals as goal

pub invariant_of-result : goal.invariant_of-result
invariant_of-result c = none_linked_yet c.new.result.slots c.new-2.result c.new.ensures.empty c.new-2.ensures

pub returns : goal.returns
returns c = none_shown c.new.result.slots c.new-2.result c.new.ensures.empty c.new-2.ensures
