use Rattle.std.proofs.Common.{◌≡◌, map as each, take}
use Rattle.dc_question.specs.Changes.{value_write}
use Rattle.dc_question.proofs.questions.Questions.value_batch.Given as goal

abbrev pub invariant-loop-answer : goal.invariant-loop-answer
invariant-loop-answer g l =
    let layers = each (λ b. (goal.Layer-dyn g (b.vtable, b.value)).state b.value) l.self.store.now.layers.items in
    l.batch ≡ each (value_write layers l.self.context) (take l.answer-index l.answers)
