use Rattle.std.proofs.Common.{◌≡◌, ◌++◌}
use Rattle.dc_layer.proofs.PrefixLemmas.{files}
use Rattle.dc_layer.proofs.imaging.images_of.Given as goal

abbrev pub invariant-loop-front : goal.invariant-loop-front
invariant-loop-front l = l.images ++ files l.spec l.front-iterator ≡ files l.spec l.initial.front-iterator
