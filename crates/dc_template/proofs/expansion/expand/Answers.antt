use Rattle.std.proofs.Common.{◌≡◌, ℕ, List, [], ◌∷◌, ◌++◌, sym, ap, ◌∙◌, append_assoc}
use Rattle.dc_template.specs.Expansion.{closes, expanded}
use Rattle.dc_template.proofs.TestLemmas.{apart_at}
use Rattle.dc_template.proofs.ExpansionLemmas.{unclosed, parted}
use Rattle.dc_template.proofs.expansion.expand.Goals as goal

pub append_expanded-requires : goal.append_expanded-requires
append_expanded-requires g c = ap closes c.in-Some.ensures.1 ∙ (apart_at 125 c.loop-front.rest.now c.in-Some.ensures.0).1

pub loop-front-preserved : goal.loop-front-preserved
loop-front-preserved g c =
    let v = g.V.Variables.values c.args.variables.now in
    let front : List ℕ = c.in-Some.front.now in
    let after : List ℕ = c.in-Some.after.now in
    let free : closes front ≡ _ = ap closes c.in-Some.ensures.1 ∙ (apart_at 125 c.loop-front.rest.now c.in-Some.ensures.0).1 in
    let whole : c.loop-front.rest.now ≡ front ++ 125 ∷ after = (apart_at 125 c.loop-front.rest.now c.in-Some.ensures.0).0 ∙ (λ i. sym c.in-Some.ensures.1 i ++ 125 ∷ sym c.in-Some.ensures.2 i) in
    ap (λ t. t ++ expanded v after) c.in_ok-append_expanded.ensures
    ∙ append_assoc c.loop-front.out (expanded v (front ++ 125 ∷ [])) (expanded v after)
    ∙ ap (λ (t : List ℕ). c.loop-front.out ++ t) (sym (ap (expanded v) whole ∙ parted v front after free))
    ∙ c.loop-front.invariant

pub returns : goal.returns
returns g c =
    c.in_ok-append.ensures.ok
    ∙ ap (λ (t : List ℕ). c.loop-front.out ++ t) (sym (unclosed (g.V.Variables.values c.args.variables.now) c.loop-front.rest.now c.in_default.ensures)) ∙ c.loop-front.invariant
