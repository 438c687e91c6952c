use Rattle.std.proofs.Common.{◌≡◌, map as each, take}
use Rattle.dc_question.proofs.answers.names.Given as goal

abbrev pub invariant-loop-answer : goal.invariant-loop-answer
invariant-loop-answer l = l.names ≡ each (λ a. a.0) (take l.answer-index l.answers)
