use Rattle.std.proofs.Common.{◌≡◌, length, ◌++◌}
use Rattle.dc_conf.proofs.webs.copy_row.Given as goal

abbrev pub invariant-loop-rest : goal.invariant-loop-rest
invariant-loop-rest l = l.copy.items ++ l.rest ≡ l.row

abbrev pub decreases-loop-rest : goal.decreases-loop-rest
decreases-loop-rest l = length l.rest
