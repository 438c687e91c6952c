use Rattle.std.proofs.Common.{◌≡◌, ◌++◌, drop, map as each}
use Rattle.dc_frontend.specs.declared.shown.Shown.{Shown}
use Rattle.dc_teletype.specs.declared.teletype.Answer.TheVariants.{Keep}
use Rattle.dc_pass.proofs.sending.kept.Given as goal

abbrev pub invariant-loop-question : goal.invariant-loop-question
invariant-loop-question l = l.answers ++ each (λ (_ : Shown). Keep) (drop l._question-index l.shown) ≡ each (λ (_ : Shown). Keep) l.shown
