use Rattle.std.proofs.Common.{◌≡◌, length, ◌++◌, map as each}
use Rattle.dc_conf.specs.Machine.{flags_of, direct_row}
use Rattle.dc_conf.proofs.webs.direct_rows.Given as goal

abbrev pub invariant-loop-rest : goal.invariant-loop-rest
invariant-loop-rest l = flags_of l.rows ++ each (λ node. direct_row node l.nodes) l.rest ≡ each (λ node. direct_row node l.nodes) l.nodes

abbrev pub decreases-loop-rest : goal.decreases-loop-rest
decreases-loop-rest l = length l.rest
