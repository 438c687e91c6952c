use Rattle.std.proofs.Common.{◌≡◌, length}
use Rattle.dc_text.specs.Bytes.{is_space, drop_front}
use Rattle.dc_preseed.proofs.selections.without_gap.Given as goal

abbrev pub invariant-loop-rest : goal.invariant-loop-rest
invariant-loop-rest l = drop_front is_space l.rest ≡ drop_front is_space l.bytes

abbrev pub decreases-loop-rest : goal.decreases-loop-rest
decreases-loop-rest l = length l.rest
