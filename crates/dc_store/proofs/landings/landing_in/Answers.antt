use Rattle.std.proofs.Common.{◌≡◌, IfOk, ap, subst, ◌∙◌}
use Rattle.dc_conf.specs.Plans.{leaves}
use Rattle.dc_conf.specs.Trees.{shape}
use Rattle.dc_store.specs.Holders.{holder_of}
use Rattle.dc_store.proofs.Plain.{home_target}
use Rattle.dc_store.proofs.landings.landing_in.Goals as goal

pub returns-in-None : goal.returns-in-None
returns-in-None g c =
    let ls = g.L.Layers.states c.args.layers.now in
    let places = leaves (shape c.args.plan.now) in
    subst (λ wanted. IfOk c.home_in.result (λ place. place ≡ wanted))
    (home_target ls c.args.name.now c.args.kind places (c.in-None.ensures.place ∙ ap (holder_of ls places) c.bytes.ensures.value)) c.home_in.ensures
