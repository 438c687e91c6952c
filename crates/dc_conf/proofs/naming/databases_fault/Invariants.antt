use Rattle.std.proofs.Common.{◌≡◌, length}
use Rattle.std.specs.List.{flat_map}
use Rattle.dc_conf.specs.ConfFaults.{made_faults, driver_in}
use Rattle.dc_conf.specs.Machine.{earlier_of, least_of}
use Rattle.dc_conf.proofs.naming.databases_fault.Given as goal

abbrev pub invariant-loop-rest : goal.invariant-loop-rest
invariant-loop-rest l = earlier_of l.least (least_of (flat_map (λ stanza. made_faults l.web (driver_in stanza) stanza) l.rest))
    ≡ least_of (flat_map (λ stanza. made_faults l.web (driver_in stanza) stanza) l.databases)

abbrev pub decreases-loop-rest : goal.decreases-loop-rest
decreases-loop-rest l = length l.rest
