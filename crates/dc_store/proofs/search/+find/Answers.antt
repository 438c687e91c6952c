use Rattle.std.proofs.Common.{sym, ap, ◌∙◌}
use Rattle.std.specs.Option.{option_map}
use Rattle.dc_conf.specs.Trees.{shape, shapes}
use Rattle.dc_store.proofs.Joins.{more_first, more_second, seen_first, seen_second}
use Rattle.dc_store.proofs.search.+find.Goals as goal

pub find_among-returns-in-Some-clause-place : goal.find_among-returns-in-Some-clause-place
find_among-returns-in-Some-clause-place g t c =
    let found = sym c.find_in.ensures.place ∙ ap (option_map (λ found. found.0)) c.in-Some.is in
    let all = shapes c.args.plans.now in
    sym (more_first (g.L.Layers.states c.args.layers.now) c.args.name.now all _ all _ _ (ap shapes c.in-More.is) (ap shape c.deref.ensures) c.in-Some.found.0 found)

pub find_among-returns-in-Some-clause-item : goal.find_among-returns-in-Some-clause-item
find_among-returns-in-Some-clause-item g t c =
    let found = sym c.find_in.ensures.place ∙ ap (option_map (λ found. found.0)) c.in-Some.is in
    let all = shapes c.args.plans.now in
    ap (option_map (λ found. found.1.now)) (sym c.in-Some.is) ∙ (c.find_in.ensures.item
    ∙ sym (seen_first (g.L.Layers.states c.args.layers.now) c.args.name.now all _ all _ _ (ap shapes c.in-More.is) (ap shape c.deref.ensures) c.in-Some.found.0 found))

pub find_among-returns-in-None-clause-place : goal.find_among-returns-in-None-clause-place
find_among-returns-in-None-clause-place g t c =
    let none = sym c.find_in.ensures.place ∙ ap (option_map (λ found. found.0)) c.in-None.is in
    c.find_among.ensures.place
    ∙ sym (more_second (g.L.Layers.states c.args.layers.now) c.args.name.now (shapes c.args.plans.now) _ (shapes c.deref-in-None.result.now) _ _ (ap shapes c.in-More.is) (ap shape c.deref.ensures) (ap shapes c.deref-in-None.ensures) none)

pub find_among-returns-in-None-clause-item : goal.find_among-returns-in-None-clause-item
find_among-returns-in-None-clause-item g t c =
    let none = sym c.find_in.ensures.place ∙ ap (option_map (λ found. found.0)) c.in-None.is in
    c.find_among.ensures.item
    ∙ sym (seen_second (g.L.Layers.states c.args.layers.now) c.args.name.now (shapes c.args.plans.now) _ (shapes c.deref-in-None.result.now) _ _ (ap shapes c.in-More.is) (ap shape c.deref.ensures) (ap shapes c.deref-in-None.ensures) none)
