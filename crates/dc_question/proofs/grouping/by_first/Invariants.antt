use Rattle.std.proofs.Common.{◌≡◌, ℕ, List, take}
use Rattle.dc_question.specs.Losses.{behind, held_at}
use Rattle.dc_question.proofs.grouping.by_first.Given as goal

abbrev pub invariant-loop-pair : goal.invariant-loop-pair
invariant-loop-pair l = (t : List ℕ) → held_at l.held t ≡ behind t (take l.pair-index l.pairs)
