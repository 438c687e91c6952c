use Rattle.std.proofs.Common.{rules, refl}
use Rattle.dc_session.specs.Machine.{TakesLine, Aborts}
use Rattle.dc_session.proofs.ServeLemmas.{begun_as, served_as, unserved}
use Rattle.dc_session.proofs.serving.serve_layers.Goals as goal

pub returns-in-Ok : goal.returns-in-Ok
returns-in-Ok g c =
    served_as TakesLine Aborts _ _ _ _ _ _ _ _ _ _ _ _ _ _ _ _ _ c.serve_desk.ensures (begun_as _ _ _ _ _ _ _ _ _ _ c.in-Ok.policy c.args.setup.now.frontend c.args.setup.now.threshold _ _ (search rules) (search rules) (search rules) (search rules) (search rules) c.nothing-asking.ensures)
    refl refl refl refl refl

pub returns : goal.returns
returns g c = unserved TakesLine Aborts _ _ _ _ (search rules) (search rules) (search rules) (search rules)
