use Rattle.std.proofs.Common.{◌≡◌, length}
use Rattle.dc_conf.specs.Machine.{all_marked}
use Rattle.dc_conf.proofs.webs.mark_all.Given as goal

abbrev pub invariant-loop-rest : goal.invariant-loop-rest
invariant-loop-rest l = all_marked l.places l.row l.rest ≡ all_marked l.places l.initial.row l.names

abbrev pub decreases-loop-rest : goal.decreases-loop-rest
decreases-loop-rest l = length l.rest
