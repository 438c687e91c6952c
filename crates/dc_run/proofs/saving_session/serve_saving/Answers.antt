use Rattle.std.proofs.Common.{rules, refl}
use Rattle.dc_session.proofs.ServeLemmas.{begun_as, served_as, unserved}
use Rattle.dc_run.specs.SavingSession.{TakesSaving, BreaksSaving}
use Rattle.dc_run.proofs.SavingLemmas.{saving_served}
use Rattle.dc_run.proofs.saving_session.serve_saving.Goals as goal

pub returns-in-Ok : goal.returns-in-Ok
returns-in-Ok g c =
    saving_served _ _ _ _ c.serve_desk.result.end _ _
    (served_as TakesSaving BreaksSaving _ _ _ _ _ _ _ _ _ _ _ _ _ _ _ _ _ c.serve_desk.ensures.1.by (begun_as _ _ _ _ _ _ _ _ _ _ c.in-Ok.policy c.args.setup.now.frontend c.args.setup.now.threshold _ _ (search rules) (search rules) (search rules) (search rules) (search rules) c.nothing-asking.ensures)
    refl refl refl refl refl)

pub returns : goal.returns
returns g c = saving_served _ _ _ _ _ _ _ (unserved TakesSaving BreaksSaving _ _ _ _ (search rules) (search rules) (search rules) (search rules))
