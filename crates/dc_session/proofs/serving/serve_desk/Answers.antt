use Rattle.std.proofs.Common.{rules, map as each, ap, ◌∙◌}
use Rattle.dc_session.specs.Machine.{TakesLine, Aborts}
use Rattle.dc_session.proofs.ServeLemmas.{served_as}
use Rattle.dc_session.proofs.serving.serve_desk.Goals as goal

pub returns : goal.returns
returns g c =
    let are = ap (each (λ b. (goal.Layer-dyn g (b.vtable, b.value)).state b.value)) (c.into_layers.ensures ∙ ap (λ d. d.questions.store.now.layers.items) c.into_parts-desk.ensures.desk) in
    served_as TakesLine Aborts _ _ _ _ _ _ _ _ _ _ _ _ _ _ _ _ _ c.serve_session-ended.ensures.served (search rules) are (search rules) (search rules) (search rules) (search rules)
