use Rattle.std.proofs.Common.{[], ◌∷◌, ◌++◌, map as each, ◌∙◌}
use Rattle.dc_question.proofs.BindLemmas.{lone_write}
use Rattle.dc_question.proofs.questions.Questions.lone_batch.Goals as goal

pub returns : goal.returns
returns g c =
    let layers = each (λ b. (goal.Layer-dyn g (b.vtable, b.value)).state b.value) c.args.self.now.store.now.layers.items in
    let written = c.in_ok-write_beside.ensures ∙ lone_write layers c.args.self.now.context c.args.name.now c.args.op c.none.result c.none.ensures in
    c.in_ok-push.ensures.ok ∙ (λ i. c.new-batch.ensures i ++ written i ∷ [])
