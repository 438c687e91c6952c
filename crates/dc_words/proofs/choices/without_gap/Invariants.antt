use Rattle.std.proofs.Common.{◌≡◌, length}
use Rattle.dc_text.specs.Bytes.{drop_front}
use Rattle.dc_words.specs.Choices.{is_gap}
use Rattle.dc_words.proofs.choices.without_gap.Given as goal

abbrev pub invariant-loop-rest : goal.invariant-loop-rest
invariant-loop-rest l = drop_front is_gap l.rest ≡ drop_front is_gap l.bytes

abbrev pub decreases-loop-rest : goal.decreases-loop-rest
decreases-loop-rest l = length l.rest
