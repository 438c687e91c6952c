use Rattle.std.proofs.Common.{◌≡◌, ◌++◌, false, length}
use Rattle.dc_words.specs.Choices.{symbols, choices_of}
use Rattle.dc_words.proofs.ChoiceLemmas.{pieces_from}
use Rattle.dc_words.proofs.choices.split_choices.Given as goal

abbrev pub invariant-loop-rest : goal.invariant-loop-rest
invariant-loop-rest l = l.choices ++ pieces_from l.choice (symbols false l.rest) ≡ choices_of l.text

abbrev pub decreases-loop-rest : goal.decreases-loop-rest
decreases-loop-rest l = length l.rest
