use Rattle.dc_item.proofs.PartLemmas.{begins, none_in}
use Rattle.dc_item.proofs.item_builder.ItemBuilder.new.Goals as goal

pub invariant_of-result : goal.invariant_of-result
invariant_of-result c = begins c.new.result c.new.ensures

pub returns : goal.returns
returns c = none_in c.new.result c.new.ensures
