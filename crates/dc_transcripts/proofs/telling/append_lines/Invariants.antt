use Rattle.std.proofs.Common.{length}
use Rattle.dc_transcripts.proofs.telling.append_lines.Given as goal

abbrev pub decreases-loop-rest : goal.decreases-loop-rest
decreases-loop-rest l = length l.rest
