use Rattle.dc_item.proofs.PartLemmas.{drop_flag, without_flag}
use Rattle.dc_item.proofs.item.Item.drop_flag.Goals as goal

pub invariant_of-self : goal.invariant_of-self
invariant_of-self c = without_flag c.self.inside.parts c.remove.new.self c.args.flag.now c.self.invariant c.remove.ensures

pub returns : goal.returns
returns c = drop_flag c.self.inside.parts c.remove.new.self c.args.flag.now c.args.self.now c.self.view_is c.remove.ensures
