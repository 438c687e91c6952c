use Rattle.std.proofs.Common.{◌≡◌, ◌++◌, drop}
use Rattle.dc_pass.specs.Passing.{sent_questions}
use Rattle.dc_pass.proofs.sending.sent_questions.Given as goal

abbrev pub invariant-loop-question : goal.invariant-loop-question
invariant-loop-question l = l.sent ++ sent_questions (drop l.question-index l.shown) ≡ sent_questions l.shown
