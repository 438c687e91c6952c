use Rattle.std.proofs.Common.{◌≡◌, ◌++◌, length}
use Rattle.dc_teletype.specs.Keys.{all_beside}
use Rattle.dc_teletype.proofs.keys.all_beside.Given as goal

abbrev pub invariant-loop-keys : goal.invariant-loop-keys
invariant-loop-keys l = l.found ++ all_beside l.keys l.left l.words ≡ all_beside l.initial.keys l.items l.words

abbrev pub decreases-loop-keys : goal.decreases-loop-keys
decreases-loop-keys l = length l.keys
