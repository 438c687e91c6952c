use Rattle.std.proofs.Common.{length, Some}
use Rattle.dc_slots.specs.Links.{links_from}
use Rattle.dc_slots.proofs.LinkLemmas.{IsSearched}
use Rattle.dc_slots.proofs.owner_lists.place_of.Given as goal

abbrev pub invariant-loop-at : goal.invariant-loop-at
invariant-loop-at l = IsSearched l.links.slots (links_from l.links.slots (Some l.fn.first)) l.slot l.before l.at

abbrev pub decreases-loop-at : goal.decreases-loop-at
decreases-loop-at l = length (links_from l.links.slots l.at)
