use Rattle.std.proofs.Common.{rules, map as each, ap, ◌∙◌}
use Rattle.dc_session.proofs.ServeLemmas.{served_as}
use Rattle.dc_run.specs.SavingSession.{TakesSaving, BreaksSaving}
use Rattle.dc_run.proofs.SavingLemmas.{saving_served}
use Rattle.dc_run.proofs.saving_session.serve_desk.Goals as goal

pub returns : goal.returns
returns g c =
    let are = ap (each (λ b. (goal.Layer-dyn g (b.vtable, b.value)).state b.value)) (c.into_layers.ensures ∙ ap (λ d. d.questions.store.now.layers.items) c.into_parts-desk.ensures.desk) in
    saving_served _ _ _ _ c.serve_session-ended.result.end _ _
    (served_as TakesSaving BreaksSaving _ _ _ _ _ _ _ _ _ _ _ _ _ _ _ _ _ c.serve_session-ended.ensures.served.1.by (search rules) are (search rules) (search rules) (search rules) (search rules))
