use Rattle.dc_item.proofs.PartLemmas.{drop_field, without_field}
use Rattle.dc_item.proofs.item.Item.drop_field.Goals as goal

pub invariant_of-self : goal.invariant_of-self
invariant_of-self c = without_field c.self.inside.parts c.remove.new.self c.args.key.now c.self.invariant c.remove.ensures

pub returns : goal.returns
returns c = drop_field c.self.inside.parts c.remove.new.self c.args.key.now c.args.self.now c.self.view_is c.remove.ensures
