use Rattle.std.proofs.Common.{ap}
use Rattle.dc_conf.specs.Trees.{shape, shapes}
use Rattle.dc_store.proofs.Frames.{same_layers}
use Rattle.dc_store.proofs.Joins.{first_holds}
use Rattle.dc_store.proofs.writing.+write_on_top.Goals as goal

pub returns-in-End-clause-others : goal.returns-in-End-clause-others
returns-in-End-clause-others g t c = same_layers c.args.name.now _

pub returns-in-Backup-clause-others : goal.returns-in-Backup-clause-others
returns-in-Backup-clause-others g t c = same_layers c.args.name.now _

pub returns-in-More-clause-there : goal.returns-in-More-clause-there
returns-in-More-clause-there g t c is =
    first_holds (g.L.Layers.states c.args.layers.now) c.args.name.now (shape c.args.plan.now) _ _ _ _ (ap shape c.in-Stack.is) (ap shapes c.in-More.is) (ap shape c.deref.ensures) (c.write_on_top.ensures.there is)
