use Rattle.std.proofs.Common.{sym, ap, ◌∙◌, ◌++◌, ◌∷◌, []}
use Rattle.dc_item.specs.After.{without}
use Rattle.dc_item.proofs.EffectLemmas.{without_last, without_none, nothing_in}
use Rattle.dc_item.proofs.item.Item.drop_owners.Invariants.{dropped}
use Rattle.dc_item.proofs.item.Item.drop_owners.Goals as goal

pub loop-last-preserved : goal.loop-last-preserved
loop-last-preserved c =
    let item = c.loop-last.self in
    let last = c.bytes.result.now in
    ap (λ p. dropped p c.in-Some.front.now) c.drop_owner.ensures
    ∙ ap (λ s. record item { owners = s }) (without_last item.owners c.in-Some.front.now last)
    ∙ ap (dropped item) (sym (c.in-Some.ensures.cases.0 ∙ ap (λ l. c.in-Some.front.now ++ l ∷ []) (sym c.bytes.ensures.value)))
    ∙ c.loop-last.invariant

pub returns : goal.returns
returns c =
    let item = c.loop-last.self in
    sym (ap (λ s. record item { owners = s }) (ap (without item.owners) (nothing_in c.loop-last.rest.now c.in_default.ensures.cases) ∙ without_none item.owners)) ∙ c.loop-last.invariant
