use Rattle.std.proofs.Common.{◌≡◌, ◌++◌, true, length}
use Rattle.dc_words.specs.Choices.{choice_text}
use Rattle.dc_words.proofs.choices.append_choice.Given as goal

abbrev pub invariant-loop-rest : goal.invariant-loop-rest
invariant-loop-rest l = l.text ++ choice_text l.is_edge l.rest ≡ l.initial.text ++ choice_text true l.choice

abbrev pub decreases-loop-rest : goal.decreases-loop-rest
decreases-loop-rest l = length l.rest
