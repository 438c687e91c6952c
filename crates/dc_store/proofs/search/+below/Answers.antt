use Rattle.std.proofs.Common.{sym, ap, ◌∙◌}
use Rattle.std.specs.Option.{option_copied}
use Rattle.dc_conf.specs.Trees.{shape, shapes}
use Rattle.dc_store.proofs.BelowLemmas.{past_first, past_second, flag_second}
use Rattle.dc_store.proofs.search.+below.Goals as goal

pub below_among-returns-in_default-Some-clause-item : goal.below_among-returns-in_default-Some-clause-item
below_among-returns-in_default-Some-clause-item g t c =
    let found = sym c.below_in.ensures.item ∙ ap option_copied c.in_default-Some.is-1 in
    let all = shapes c.args.plans.now in
    sym (past_first (g.L.Layers.states c.args.layers.now) c.args.name.now all _ all _ _ (ap shapes c.in-More.is) (ap shape c.deref.ensures) c.args.is_found _ found)

pub below_among-returns-in_default-None-clause-found : goal.below_among-returns-in_default-None-clause-found
below_among-returns-in_default-None-clause-found g t c none =
    flag_second (g.L.Layers.states c.args.layers.now) c.args.name.now (shapes c.args.plans.now) _ (shapes c.deref-in_default-None.result.now) _ _ (ap shapes c.in-More.is) (ap shape c.deref.ensures) c.args.is_found
    c.below_in.result.0 c.below_among.result.0 (ap shapes c.deref-in_default-None.ensures) (c.below_in.ensures.found (ap option_copied c.in_default-None.is-1)) (c.below_among.ensures.found none)

pub below_among-returns-in_default-None-clause-item : goal.below_among-returns-in_default-None-clause-item
below_among-returns-in_default-None-clause-item g t c =
    let none = sym c.below_in.ensures.item ∙ ap option_copied c.in_default-None.is-1 in
    c.below_among.ensures.item
    ∙ sym (past_second (g.L.Layers.states c.args.layers.now) c.args.name.now (shapes c.args.plans.now) _ (shapes c.deref-in_default-None.result.now) _ _ (ap shapes c.in-More.is) (ap shape c.deref.ensures) c.args.is_found
    c.below_in.result.0 (ap shapes c.deref-in_default-None.ensures) none (c.below_in.ensures.found (ap option_copied c.in_default-None.is-1)))
