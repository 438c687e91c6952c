use Rattle.std.proofs.Common.{◌≡◌, ◌≤◌, length, drop}
use Rattle.dc_conf.specs.Machine.{places_from}
use Rattle.dc_conf.proofs.webs.places_of.Given as goal

abbrev pub invariant-loop-place : goal.invariant-loop-place
invariant-loop-place l = record {
  places : l.places ≡ places_from l.place (drop l.place l.nodes);
  within : l.place ≤ length l.nodes;
}

abbrev pub decreases-loop-place : goal.decreases-loop-place
decreases-loop-place l = l.place
