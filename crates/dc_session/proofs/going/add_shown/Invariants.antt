use Rattle.std.proofs.Common.{◌≡◌, drop, map as each}
use Rattle.std.specs.Prelude.{fold}
use Rattle.dc_session.specs.Asking.{with_name}
use Rattle.dc_session.proofs.going.add_shown.Given as goal

abbrev pub invariant-loop-question : goal.invariant-loop-question
invariant-loop-question l = fold with_name l.set (each (λ s. s.name) (drop l.question-index l.questions)) ≡ fold with_name l.fn.set (each (λ s. s.name) l.questions)
