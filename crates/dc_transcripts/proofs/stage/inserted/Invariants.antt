use Rattle.std.proofs.Common.{length}
use Rattle.dc_transcripts.proofs.stage.inserted.Given as goal

abbrev pub decreases-loop-head : goal.decreases-loop-head
decreases-loop-head l = length l.rest
