use Rattle.dc_item.proofs.PartLemmas.{put_flag, with_flag}
use Rattle.dc_item.proofs.item_builder.ItemBuilder.put_flag.Goals as goal

pub invariant_of-self-2 : goal.invariant_of-self-2
invariant_of-self-2 c = with_flag c.self.inside.parts c.insert.new.self c.args.flag.now c.self.invariant c.in_ok-insert.ensures.ok c.requires

pub returns-clause-ok : goal.returns-clause-ok
returns-clause-ok c = put_flag c.self.inside.parts c.insert.new.self c.args.flag.now c.args.self.now c.self.view_is c.in_ok-insert.ensures.ok
