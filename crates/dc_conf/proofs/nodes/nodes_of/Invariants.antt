use Rattle.std.proofs.Common.{◌≡◌, length, ◌++◌}
use Rattle.dc_conf.specs.ConfFaults.{nodes_of}
use Rattle.dc_conf.proofs.nodes.nodes_of.Given as goal

abbrev pub invariant-loop-rest : goal.invariant-loop-rest
invariant-loop-rest l = l.nodes ++ nodes_of l.rest ≡ nodes_of l.databases

abbrev pub decreases-loop-rest : goal.decreases-loop-rest
decreases-loop-rest l = length l.rest
