use Rattle.std.proofs.Common.{◌≡◌, map as each, take}
use Rattle.dc_question.proofs.grouping.firsts.Given as goal

abbrev pub invariant-loop-pair : goal.invariant-loop-pair
invariant-loop-pair l = l.names ≡ each (λ p. p.0) (take l.pair-index l.pairs)
