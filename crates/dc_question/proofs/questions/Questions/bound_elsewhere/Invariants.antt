use Rattle.std.proofs.Common.{◌≡◌, map as each, drop}
use Rattle.dc_question.specs.Ownership.{bound_elsewhere}
use Rattle.dc_question.proofs.questions.Questions.bound_elsewhere.Given as goal

-- the templates before have questions of their own, or none
abbrev pub invariant-loop-template : goal.invariant-loop-template
invariant-loop-template g l =
    let layers = each (λ b. (goal.Layer-dyn g (b.vtable, b.value)).state b.value) l.self.store.now.layers.items in
    bound_elsewhere layers l.self.context l.list ≡ bound_elsewhere layers l.self.context (drop l.template-index l.list)
