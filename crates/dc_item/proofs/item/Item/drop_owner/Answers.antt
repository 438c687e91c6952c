use Rattle.dc_item.proofs.PartLemmas.{drop_owner, without_owner}
use Rattle.dc_item.proofs.item.Item.drop_owner.Goals as goal

pub invariant_of-self : goal.invariant_of-self
invariant_of-self c = without_owner c.self.inside.parts c.remove.new.self c.args.owner.now c.self.invariant c.remove.ensures

pub returns : goal.returns
returns c = drop_owner c.self.inside.parts c.remove.new.self c.args.owner.now c.args.self.now c.self.view_is c.remove.ensures
