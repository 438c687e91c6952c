use Rattle.std.proofs.Common.{length}
use Rattle.dc_transcripts.proofs.examples.play_part.Given as goal

abbrev pub decreases-loop-rest : goal.decreases-loop-rest
decreases-loop-rest l = length l.rest
