use Rattle.std.proofs.Common.{◌≡◌, map as each, take}
use Rattle.dc_question.specs.Losses.{pairs_lost}
use Rattle.dc_question.proofs.questions.Questions.pairs_lost.Given as goal

abbrev pub invariant-loop-name : goal.invariant-loop-name
invariant-loop-name g l =
    l.pairs ≡ pairs_lost (each (λ b. (goal.Layer-dyn g (b.vtable, b.value)).state b.value) l.self.store.now.layers.items) l.self.context l.owner (take l.name-index l.names)
