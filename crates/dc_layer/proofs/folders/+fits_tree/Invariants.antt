use Rattle.std.proofs.Common.{length}
use Rattle.dc_layer.proofs.folders.+fits_tree.Given as goal

abbrev pub decreases-fits_tree : goal.decreases-fits_tree
decreases-fits_tree l = length l.name.now
