use Rattle.std.proofs.Common.{◌≡◌, IfOk, map as each, subst}
use Rattle.dc_store.specs.Plans.{can_change}
use Rattle.dc_question.proofs.questions.Questions.can_change.Goals as goal

pub returns : goal.returns
returns g c =
    subst (λ k. IfOk c.can_change.result (λ is. is ≡ can_change (each (λ b. (goal.Layer-dyn g (b.vtable, b.value)).state b.value) c.args.self.now.store.now.layers.items) c.args.self.now.context.config c.args.name.now k))
    c.kind.ensures
    (subst (λ s. IfOk c.can_change.result (λ is. is ≡ can_change (each (λ b. (goal.Layer-dyn g (b.vtable, b.value)).state b.value) s.store.now.layers.items) s.context.config c.args.name.now c.kind.result))
    c.self.view_is c.can_change.ensures)
