use Rattle.std.proofs.Common.{◌-◌, length}
use Rattle.dc_shelf.proofs.loading.+load_from.Given as goal

abbrev pub decreases-load_from : goal.decreases-load_from
decreases-load_from g l = length l.specs.now - l.place
