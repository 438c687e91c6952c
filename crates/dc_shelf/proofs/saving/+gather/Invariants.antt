use Rattle.std.proofs.Common.{length}
use Rattle.dc_shelf.proofs.saving.+gather.Given as goal

abbrev pub decreases-gather : goal.decreases-gather
decreases-gather g l = length l.layers.now
