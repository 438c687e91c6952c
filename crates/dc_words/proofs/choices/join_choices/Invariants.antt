use Rattle.std.proofs.Common.{◌≡◌, ◌++◌, length}
use Rattle.dc_words.specs.Choices.{joined}
use Rattle.dc_words.proofs.choices.join_choices.Given as goal

abbrev pub invariant-loop-rest : goal.invariant-loop-rest
invariant-loop-rest l = l.text ++ joined l.rest ≡ joined l.list

abbrev pub decreases-loop-rest : goal.decreases-loop-rest
decreases-loop-rest l = length l.rest
