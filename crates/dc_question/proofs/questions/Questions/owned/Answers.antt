use Rattle.std.proofs.Common.{◌≡◌, IfOk, map as each, subst}
use Rattle.dc_store.specs.Plans.{owned}
use Rattle.dc_question.proofs.questions.Questions.owned.Goals as goal

pub returns : goal.returns
returns g c =
    subst (λ s. IfOk c.owned.result (λ names. names ≡ owned (each (λ b. (goal.Layer-dyn g (b.vtable, b.value)).state b.value) s.store.now.layers.items) s.context.config c.args.owner.now))
    c.self.view_is c.owned.ensures
