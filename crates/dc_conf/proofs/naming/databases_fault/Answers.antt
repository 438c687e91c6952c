use Rattle.std.proofs.Common.{ap, ◌∙◌}
use Rattle.dc_conf.specs.ConfFaults.{made_faults, driver_in}
use Rattle.dc_conf.specs.Machine.{earlier_of, least_of}
use Rattle.dc_conf.proofs.LeastLemmas.{faults_turn}
use Rattle.dc_conf.proofs.TestLemmas.{list_apart}
use Rattle.dc_conf.proofs.naming.databases_fault.Goals as goal

pub loop-rest-preserved : goal.loop-rest-preserved
loop-rest-preserved c =
    faults_turn (λ s. made_faults c.args.web.now (driver_in s) s) c.loop-rest.rest.now _ c.stanza-item.result c.loop-rest.least _ _
    (list_apart c.loop-rest.rest.now c.stanza-item.result c.in-len1-up.len_at_least c.stanza-item.is)
    (c.earlier-least.ensures ∙ ap (earlier_of c.loop-rest.least) (c.in_ok-made_fault.ensures ∙ ap (λ s. least_of (made_faults c.args.web.now (driver_in s) s)) c.as_slice.ensures))
    c.loop-rest.invariant
