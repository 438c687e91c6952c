use Rattle.std.proofs.Common.{rules, refl}
use Rattle.dc_session.proofs.ServeLemmas.{begun_as}
use Rattle.dc_drill.proofs.DrillLemmas.{begins_over}
use Rattle.dc_drill.proofs.drilling.begin.Goals as goal

pub returns : goal.returns
returns g c =
    begins_over _ _ _ _ _ _ c.begin_at-begun.ensures.begins
    (begun_as _ _ _ _ _ _ _ _ _ _ _ c.args.setup.now.frontend c.args.setup.now.threshold _ _ (search rules) (search rules) (search rules) (search rules) refl refl)
    (search rules) refl
