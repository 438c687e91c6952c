use Rattle.std.proofs.Common.{◌≡◌, length, ◌++◌, map as each}
use Rattle.std.specs.Prelude.{codes}
use Rattle.dc_conf.specs.ConfFaults.{value_at}
use Rattle.dc_conf.proofs.conf.names_of.Given as goal

abbrev pub invariant-loop-rest : goal.invariant-loop-rest
invariant-loop-rest l = l.names ++ each (value_at (codes "name")) l.rest ≡ each (value_at (codes "name")) l.databases

abbrev pub decreases-loop-rest : goal.decreases-loop-rest
decreases-loop-rest l = length l.rest
