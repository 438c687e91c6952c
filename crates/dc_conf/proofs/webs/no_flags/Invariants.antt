use Rattle.std.proofs.Common.{◌≡◌, length, ◌++◌, false, map as each}
use Rattle.dc_conf.proofs.webs.no_flags.Given as goal

abbrev pub invariant-loop-rest : goal.invariant-loop-rest
invariant-loop-rest l = l.row.items ++ each (λ _. false) l.rest ≡ each (λ _. false) l.nodes

abbrev pub decreases-loop-rest : goal.decreases-loop-rest
decreases-loop-rest l = length l.rest
