use Rattle.std.proofs.Common.{length}
use Rattle.dc_shelf.proofs.shelf.+set_up_from.Given as goal

abbrev pub decreases-set_up_from : goal.decreases-set_up_from
decreases-set_up_from g l = length l.specs.now
