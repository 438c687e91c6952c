use Rattle.std.proofs.Common.{◌≡◌, length, ◌++◌, ◌+◌, take, ℕ, []}
use Rattle.dc_conf.specs.ConfFaults.{along, database_faults}
use Rattle.dc_conf.specs.Machine.{least_of, Rise}
use Rattle.dc_conf.proofs.checking.databases_fault.Given as goal

abbrev pub invariant-loop-rest : goal.invariant-loop-rest
invariant-loop-rest l = record {
  before : take l.place l.databases ++ l.rest ≡ l.databases;
  counted : l.place + length l.rest ≡ length l.databases;
  least : least_of (along database_faults (take l.place l.databases) l.rest) ≡ least_of (along database_faults [] l.databases);
  rise : (low : ℕ) × Rise low l.rest;
}

abbrev pub decreases-loop-rest : goal.decreases-loop-rest
decreases-loop-rest l = length l.rest
