use Rattle.std.proofs.Common.{◌≡◌, IfOk, sym, ap, subst, ◌∙◌}
use Rattle.dc_conf.specs.Trees.{shape, shapes}
use Rattle.dc_store.specs.Writes.{takes_at}
use Rattle.dc_store.proofs.Joins.{found_first, found_second}
use Rattle.dc_store.proofs.landings.+home.Goals as goal

pub home_among-returns-in-Some : goal.home_among-returns-in-Some
home_among-returns-in-Some g t c =
    let all = shapes c.args.plans.now in
    sym (found_first (takes_at (g.L.Layers.states c.args.layers.now) c.args.name.now c.args.kind) all _ all _ _ (ap shapes c.in-More.is) (ap shape c.deref.ensures) c.in-Some.place (sym c.in_ok-place-in-More.ensures ∙ c.in-Some.is))

pub home_among-returns-in-None : goal.home_among-returns-in-None
home_among-returns-in-None g t c =
    subst (λ wanted. IfOk c.home_among.result (λ place. place ≡ wanted))
    (sym (found_second (takes_at (g.L.Layers.states c.args.layers.now) c.args.name.now c.args.kind) (shapes c.args.plans.now) _ (shapes c.deref-in-None.result.now) _ _ (ap shapes c.in-More.is) (ap shape c.deref.ensures)
    (ap shapes c.deref-in-None.ensures) (sym c.in_ok-place-in-More.ensures ∙ c.in-None.is)))
    c.home_among.ensures
