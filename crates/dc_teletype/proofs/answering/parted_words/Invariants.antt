use Rattle.std.proofs.Common.{◌≡◌, ◌++◌, length}
use Rattle.dc_teletype.specs.Answers.{parted_words}
use Rattle.dc_teletype.proofs.answering.parted_words.Given as goal

abbrev pub invariant-loop-rest : goal.invariant-loop-rest
invariant-loop-rest l = l.words ++ parted_words l.rest ≡ parted_words l.answer

abbrev pub decreases-loop-rest : goal.decreases-loop-rest
decreases-loop-rest l = length l.rest
