use Rattle.std.proofs.Common.{◌≡◌, ◌<◌, Some, None, List, length, map as each, sym, ap, subst, ◌∙◌}
use Rattle.std.specs.Prelude.{slice_get}
use Rattle.dc_conf.specs.Plans.{leaves}
use Rattle.dc_item.specs.declared.op.Op.TheVariants.{Put}
use Rattle.dc_layer.specs.State.{LayerState, made_at, refusal, with_made}
use Rattle.dc_store.specs.Plans.{stored, write}
use Rattle.dc_store.specs.Batches.{Write}
use Rattle.dc_store.specs.Writes.{change_at}
use Rattle.dc_store.proofs.Frames.{kept, framed}
use Rattle.dc_store.proofs.LandingLemmas.{landed_within, landed_taken, lands_as}
use Rattle.dc_store.proofs.Joins.{leaves_within}
use Rattle.dc_store.proofs.Walks.{plan_keeps}
use Rattle.dc_store.proofs.store.Store.land.Goals as goal

pub put_at-requires-clause-within : goal.put_at-requires-clause-within
put_at-requires-clause-within g c =
    let layers = each (λ b. (goal.Layer-dyn g (b.vtable, b.value)).state b.value) c.args.self.now.layers.items in
    landed_within layers (leaves c.args.write.plan) c.args.write.name c.args.write.kind c.args.place (λ p. p < length c.args.self.now.layers.items) (leaves_within c.args.write.plan (length c.args.self.now.layers.items) c.requires.over) c.requires.lands.stands

pub put_at-requires-clause-taken : goal.put_at-requires-clause-taken
put_at-requires-clause-taken g c =
    let layers = each (λ b. (goal.Layer-dyn g (b.vtable, b.value)).state b.value) c.args.self.now.layers.items in
    subst (λ (w : Write). (layer : LayerState) → slice_get layers c.args.place ≡ Some layer → refusal layer w.name (Put c.in-Put.item) ≡ None) (sym c.write.view_is)
    (landed_taken layers (leaves c.args.write.plan) c.args.write.name c.args.write.kind c.args.place c.in-Put.item c.requires.lands.stands)

pub returns-clause-ok : goal.returns-clause-ok
returns-clause-ok g c =
    let layers = each (λ b. (goal.Layer-dyn g (b.vtable, b.value)).state b.value) c.args.self.now.layers.items in
    let new : List LayerState = each (λ b. (goal.Layer-dyn g (b.vtable, b.value)).state b.value) c.put_at.new.self.layers.items in
    subst (λ told. write (stored layers c.args.self.now.told) c.args.write.plan c.args.write.name c.args.write.kind c.args.write.op ≡ Some (stored new told)) (sym c.put_at.ensures.told)
    (lands_as (stored layers c.args.self.now.told) c.args.write c.args.place c.requires.lands c.in-Put.item (ap (λ (w : Write). w.op) (sym c.write.view_is) ∙ c.in-Put.is) new
    (subst (λ (w : Write). new ≡ change_at layers c.args.place (λ layer. with_made layer w.name (made_at layer w.name (Put c.in-Put.item)))) c.write.view_is c.in_ok-put_at-in-Put.ensures.ok))

pub returns-clause-frame : goal.returns-clause-frame
returns-clause-frame g c =
    let layers = each (λ b. (goal.Layer-dyn g (b.vtable, b.value)).state b.value) c.args.self.now.layers.items in
    let new : List LayerState = each (λ b. (goal.Layer-dyn g (b.vtable, b.value)).state b.value) c.put_at.new.self.layers.items in
    framed c.args.write.name _ _ (plan_keeps (stored layers c.args.self.now.told) (stored new c.args.self.now.told) c.args.write.plan c.args.write.name c.args.write.kind c.args.write.op
    (lands_as (stored layers c.args.self.now.told) c.args.write c.args.place c.requires.lands c.in-Put.item (ap (λ (w : Write). w.op) (sym c.write.view_is) ∙ c.in-Put.is) new
    (subst (λ (w : Write). new ≡ change_at layers c.args.place (λ layer. with_made layer w.name (made_at layer w.name (Put c.in-Put.item)))) c.write.view_is c.in_ok-put_at-in-Put.ensures.ok)))

pub returns-in_err-put_at-in-Put-clause-frame : goal.returns-in_err-put_at-in-Put-clause-frame
returns-in_err-put_at-in-Put-clause-frame g c = framed c.args.write.name _ _ (kept c.args.write.name _ _ c.in_err-put_at-in-Put.ensures.err)
