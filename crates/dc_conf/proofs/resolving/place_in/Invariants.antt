use Rattle.std.proofs.Common.{◌≡◌, length, ◌+◌}
use Rattle.dc_conf.specs.Configuration.{place_in}
use Rattle.dc_conf.proofs.resolving.place_in.Given as goal

abbrev pub invariant-loop-rest : goal.invariant-loop-rest
invariant-loop-rest l = record {
  place : l.place + place_in l.rest l.name ≡ place_in l.specs l.name;
  counted : l.place + length l.rest ≡ length l.specs;
}

abbrev pub decreases-loop-rest : goal.decreases-loop-rest
decreases-loop-rest l = length l.rest
