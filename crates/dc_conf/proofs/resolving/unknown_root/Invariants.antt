use Rattle.std.proofs.Common.{◌≡◌, length, ◌+◌}
use Rattle.dc_conf.specs.Machine.{unknown_from}
use Rattle.dc_conf.proofs.resolving.unknown_root.Given as goal

abbrev pub invariant-loop-rest : goal.invariant-loop-rest
invariant-loop-rest l = record {
  found : unknown_from l.databases l.place l.rest ≡ unknown_from l.databases 0 l.roots;
  counted : l.place + length l.rest ≡ length l.roots;
}

abbrev pub decreases-loop-rest : goal.decreases-loop-rest
decreases-loop-rest l = length l.rest
