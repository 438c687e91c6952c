use Rattle.std.proofs.Common.{◌≡◌, false, map as each, subst}
use Rattle.dc_store.specs.Plans.{would_take}
use Rattle.dc_question.proofs.questions.Questions.write.Goals as goal

pub returns-clause-refused : goal.returns-clause-refused
returns-clause-refused g c = λ is.
    subst (λ s. would_take (each (λ b. (goal.Layer-dyn g (b.vtable, b.value)).state b.value) s.store.now.layers.items) s.context.config c.args.name.now c.args.kind c.args.op.now ≡ false)
    c.self.view_is (c.change.ensures.refused is)
