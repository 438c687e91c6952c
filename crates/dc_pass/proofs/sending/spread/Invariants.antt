use Rattle.std.proofs.Common.{◌≡◌, ◌++◌, drop}
use Rattle.dc_pass.specs.Passing.{spread}
use Rattle.dc_pass.proofs.sending.spread.Given as goal

abbrev pub invariant-loop-question : goal.invariant-loop-question
invariant-loop-question l = l.all ++ spread (drop l.question-index l.shown) l.rest ≡ spread l.shown l.answers
