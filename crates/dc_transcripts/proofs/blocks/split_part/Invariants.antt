use Rattle.std.proofs.Common.{◌<◌, length}
use Rattle.dc_transcripts.proofs.blocks.split_part.Given as goal

abbrev pub invariant-loop-rest : goal.invariant-loop-rest
invariant-loop-rest l = length l.rest < length l.page

abbrev pub decreases-loop-rest : goal.decreases-loop-rest
decreases-loop-rest l = length l.rest
