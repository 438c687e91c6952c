use Rattle.std.proofs.Common.{◌≡◌, length, ◌++◌, ◌∷◌, []}
use Rattle.dc_conf.specs.ConfFaults.{is_front}
use Rattle.dc_conf.proofs.places.lies_below.Given as goal

abbrev pub invariant-loop-front : goal.invariant-loop-front
invariant-loop-front l = is_front (l.front ++ 47 ∷ []) l.rest ≡ is_front (l.folder ++ 47 ∷ []) l.path

abbrev pub decreases-loop-front : goal.decreases-loop-front
decreases-loop-front l = length l.front
