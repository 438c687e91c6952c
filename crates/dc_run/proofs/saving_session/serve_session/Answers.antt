use Rattle.std.proofs.Common.{◌∙◌}
use Rattle.dc_session.proofs.ServeLemmas.{served_from}
use Rattle.dc_run.specs.SavingSession.{TakesSaving, BreaksSaving}
use Rattle.dc_run.proofs.SavingLemmas.{saving_served}
use Rattle.dc_run.proofs.saving_session.serve_session.Goals as goal

pub returns : goal.returns
returns g c = record {
  served = saving_served _ _ _ _ c.finish_served.result.end _ _
      (served_from TakesSaving BreaksSaving _ _ _ _ _ c.serve_link-served.result.end c.finish_served.result.end _ _ _ c.serve_link-served.ensures.serves c.finish_served.ensures.code c.finish_served.ensures.rest c.finish_served.ensures.finishes);
  borrows = c.finish_served.ensures.borrows ∙ c.serve_link-served.ensures.borrows;
}
