use Rattle.std.proofs.Common.{sym, ap, ◌∙◌}
use Rattle.std.specs.List.{list_any}
use Rattle.dc_conf.specs.declared.spec.LayerSpec.{LayerSpec}
use Rattle.dc_conf.specs.Nodes.{leads_to}
use Rattle.dc_conf.proofs.TestLemmas.{list_apart, keep_turn, pass_turn}
use Rattle.dc_conf.proofs.resolving.reached.Goals as goal

pub loop-rest-preserved-in_ok-push : goal.loop-rest-preserved-in_ok-push
loop-rest-preserved-in_ok-push c =
    keep_turn (λ (spec : LayerSpec). list_any (λ root. leads_to c.args.web.now root spec.name) c.args.roots.now)
    c.loop-rest.specs _ c.loop-rest.rest.now _ c.database-item.result c.in_ok-copied.field-0 _
    (list_apart c.loop-rest.rest.now c.database-item.result c.in-len1-up.len_at_least c.database-item.is)
    (ap (λ n. list_any (λ root. leads_to c.args.web.now root n) c.args.roots.now) (sym c.bytes.ensures) ∙ sym c.some_lead_to.ensures ∙ c.if-some_lead_to.true)
    c.in_ok-copied.ensures c.in_ok-push.ensures.ok c.loop-rest.invariant

pub loop-rest-preserved : goal.loop-rest-preserved
loop-rest-preserved c =
    pass_turn (λ (spec : LayerSpec). list_any (λ root. leads_to c.args.web.now root spec.name) c.args.roots.now)
    c.loop-rest.specs c.loop-rest.rest.now _ c.database-item.result _
    (list_apart c.loop-rest.rest.now c.database-item.result c.in-len1-up.len_at_least c.database-item.is)
    (ap (λ n. list_any (λ root. leads_to c.args.web.now root n) c.args.roots.now) (sym c.bytes.ensures) ∙ sym c.some_lead_to.ensures ∙ c.if-some_lead_to.false)
    c.loop-rest.invariant
