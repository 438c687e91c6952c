use Rattle.dc_item.proofs.PartLemmas.{put_owner, with_owner}
use Rattle.dc_item.proofs.item_builder.ItemBuilder.put_owner.Goals as goal

pub invariant_of-self-2 : goal.invariant_of-self-2
invariant_of-self-2 c = with_owner c.self.inside.parts c.insert.new.self c.args.owner.now c.self.invariant c.in_ok-insert.ensures.ok c.requires

pub returns-clause-ok : goal.returns-clause-ok
returns-clause-ok c = put_owner c.self.inside.parts c.insert.new.self c.args.owner.now c.args.self.now c.self.view_is c.in_ok-insert.ensures.ok
