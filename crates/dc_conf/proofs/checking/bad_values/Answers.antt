use Rattle.std.proofs.Common.{ap, ◌∙◌}
use Rattle.dc_conf.specs.ConfFaults.{fault_if, is_bad}
use Rattle.dc_conf.specs.Machine.{earlier_of, least_of}
use Rattle.dc_conf.specs.Values.{rules_of}
use Rattle.dc_conf.specs.declared.faults.ConfKind.TheVariants.{BadValue}
use Rattle.dc_conf.proofs.LeastLemmas.{faults_turn}
use Rattle.dc_conf.proofs.TestLemmas.{list_apart}
use Rattle.dc_conf.proofs.checking.bad_values.Goals as goal

pub loop-rest-preserved : goal.loop-rest-preserved
loop-rest-preserved c =
    faults_turn (λ field. fault_if (is_bad (rules_of c.args.driver) field) field.line BadValue) c.loop-rest.rest.now _ c.field-item.result c.loop-rest.least _ _
    (list_apart c.loop-rest.rest.now c.field-item.result c.in-len1-up.len_at_least c.field-item.is)
    (c.earlier-least.ensures ∙ ap (earlier_of c.loop-rest.least) (c.fault_if.ensures ∙ ap (λ b. least_of (fault_if b c.field-item.result.line BadValue)) c.is_bad.ensures))
    c.loop-rest.invariant
