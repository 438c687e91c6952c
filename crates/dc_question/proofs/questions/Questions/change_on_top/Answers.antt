use Rattle.std.proofs.Common.{◌≡◌, is_some, true, map as each, subst}
use Rattle.dc_store.specs.Plans.{look}
use Rattle.dc_question.proofs.questions.Questions.change_on_top.Goals as goal

pub returns-clause-there : goal.returns-clause-there
returns-clause-there g c = λ is.
    subst (λ s. is_some (look (each (λ b. (goal.Layer-dyn g (b.vtable, b.value)).state b.value) s.store.now.layers.items) s.context.config c.args.name.now) ≡ true)
    c.self.view_is (c.change_on_top.ensures.there is)
