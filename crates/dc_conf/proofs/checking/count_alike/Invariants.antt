use Rattle.std.proofs.Common.{◌≡◌, ◌≤◌, ◌+◌, length}
use Rattle.std.specs.List.{filter}
use Rattle.dc_conf.specs.ConfFaults.{keep_alike, driver_in}
use Rattle.dc_conf.proofs.checking.count_alike.Given as goal

abbrev pub invariant-loop-rest : goal.invariant-loop-rest
invariant-loop-rest l = record {
  count : l.count + length (filter (λ other. keep_alike (driver_in other) l.driver) l.rest) ≡ length (filter (λ other. keep_alike (driver_in other) l.driver) l.databases);
  within : l.count + length l.rest ≤ length l.databases;
}

abbrev pub decreases-loop-rest : goal.decreases-loop-rest
decreases-loop-rest l = length l.rest
