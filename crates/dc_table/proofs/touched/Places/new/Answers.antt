use Rattle.dc_table.proofs.PlaceLemmas.{none_marked}
use Rattle.dc_table.proofs.touched.Places.new.Goals as goal

pub invariant_of-result : goal.invariant_of-result
invariant_of-result c = none_marked c.new.result.items c.new-2.result.items c.new.ensures.items c.new-2.ensures.items
