use Rattle.std.proofs.Common.{◌≡◌, length}
use Rattle.std.specs.List.{flat_map}
use Rattle.dc_conf.specs.ConfFaults.{fault_if, is_bad}
use Rattle.dc_conf.specs.Machine.{earlier_of, least_of}
use Rattle.dc_conf.specs.Values.{rules_of}
use Rattle.dc_conf.specs.declared.faults.ConfKind.TheVariants.{BadValue}
use Rattle.dc_conf.proofs.checking.bad_values.Given as goal

abbrev pub invariant-loop-rest : goal.invariant-loop-rest
invariant-loop-rest l = earlier_of l.least (least_of (flat_map (λ field. fault_if (is_bad (rules_of l.driver) field) field.line BadValue) l.rest))
    ≡ least_of (flat_map (λ field. fault_if (is_bad (rules_of l.driver) field) field.line BadValue) l.stanza)

abbrev pub decreases-loop-rest : goal.decreases-loop-rest
decreases-loop-rest l = length l.rest
