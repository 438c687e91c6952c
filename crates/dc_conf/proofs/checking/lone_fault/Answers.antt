use Rattle.std.proofs.Common.{◌++◌, List, ap, ◌∙◌}
use Rattle.std.specs.Prelude.{codes}
use Rattle.std.specs.List.{flat_map}
use Rattle.dc_conf.specs.declared.faults.Fault.{Fault}
use Rattle.dc_conf.specs.declared.faults.ConfKind.TheVariants.{TooMany, NoName, NoDriver, MissingField, BadValue}
use Rattle.dc_conf.specs.Stanzas.{Stanza, first_line}
use Rattle.dc_conf.specs.Values.{rules_of}
use Rattle.dc_conf.specs.ConfFaults.{fault_if, missing, lacks_field, unknown_driver, is_bad, bad_values, rules_in}
use Rattle.dc_conf.specs.Machine.{least_of}
use Rattle.dc_conf.proofs.LeastLemmas.{least_join}
use Rattle.dc_conf.proofs.checking.lone_fault.Goals as goal

pub returns : goal.returns
returns c =
    let s : Stanza = c.args.stanza.now in
    let many : List Fault = fault_if c.args.many (first_line s) TooMany in
    let unnamed : List Fault = missing (codes "name") s NoName in
    let undriven : List Fault = missing (codes "driver") s NoDriver in
    let lacks : List Fault = fault_if (lacks_field (rules_in s) s) (first_line s) MissingField in
    least_join (many ++ unnamed ++ undriven ++ lacks ++ unknown_driver s) (bad_values s) _ _ _ c.earlier.ensures
    (least_join (many ++ unnamed ++ undriven ++ lacks) (unknown_driver s) _ _ _ c.earlier-fault-4.ensures
    (least_join (many ++ unnamed ++ undriven) lacks _ _ _ c.earlier-fault-3.ensures
    (least_join (many ++ unnamed) undriven _ _ _ c.earlier-fault-2.ensures
    (least_join many unnamed _ _ _ c.earlier-fault.ensures
    (c.fault_if-fault.ensures ∙ ap (λ n. least_of (fault_if c.args.many n TooMany)) c.first_line-line.ensures) c.missing.ensures)
    c.missing-2.ensures)
    (c.fault_if-lacks.ensures ∙ (λ i. least_of (fault_if ((c.lacks_field.ensures ∙ ap (λ d. lacks_field (rules_of d) s) c.driver_in-driver.ensures) i) (c.first_line-line.ensures i) MissingField)))) c.unknown_driver.ensures)
    (c.bad_values.ensures ∙ ap (λ d. least_of (flat_map (λ field. fault_if (is_bad (rules_of d) field) field.line BadValue) s)) c.driver_in-driver.ensures)
