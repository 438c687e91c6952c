use Rattle.std.proofs.Common.{◌≡◌, IfOk, map as each, length, sym, ap, subst, ◌∙◌}
use Rattle.std.specs.List.{flat_map}
use Rattle.std.specs.FinMap.{keys}
use Rattle.dc_text.specs.Maps.{set_of}
use Rattle.dc_store.specs.Holders.{AreWithin}
use Rattle.dc_conf.specs.Trees.{shape}
use Rattle.dc_store.specs.Plans.{names_at}
use Rattle.dc_store.proofs.Joins.{leaves_within}
use Rattle.dc_store.proofs.store.Store.names.Goals as goal

pub names_in-requires : goal.names_in-requires
names_in-requires g c =
    let count = length c.args.self.now.layers.items in
    subst (AreWithin c.as_slice-2.result.now) (ap length (sym c.as_slice.ensures.value))
    (subst (λ places. AreWithin places count) (sym (c.as_slice-2.ensures.value ∙ c.in_ok-places.ensures)) (leaves_within (shape c.args.plan.now) count c.requires))

pub returns : goal.returns
returns g c =
    subst (λ wanted. IfOk c.in_order.result (λ list. list ≡ wanted))
    (ap (λ names. keys (set_of names))
    (c.in_ok-names.ensures
    ∙ (λ i. flat_map (names_at (each (λ b. (goal.Layer-dyn g (b.vtable, b.value)).state b.value) (c.as_slice.ensures.value i))) ((c.as_slice-2.ensures.value ∙ c.in_ok-places.ensures) i))))
    c.in_order.ensures.value
