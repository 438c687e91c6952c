use Rattle.std.proofs.Common.{length}
use Rattle.dc_transcripts.proofs.tell_page.Given as goal

abbrev pub decreases-loop-ground : goal.decreases-loop-ground
decreases-loop-ground l = length l.rest
