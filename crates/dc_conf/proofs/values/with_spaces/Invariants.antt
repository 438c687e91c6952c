use Rattle.std.proofs.Common.{◌≡◌, length, ◌++◌, map as each}
use Rattle.dc_conf.specs.Values.{spaced}
use Rattle.dc_conf.proofs.values.with_spaces.Given as goal

abbrev pub invariant-loop-rest : goal.invariant-loop-rest
invariant-loop-rest l = l.text ++ each spaced l.rest ≡ each spaced l.value

abbrev pub decreases-loop-rest : goal.decreases-loop-rest
decreases-loop-rest l = length l.rest
