use Rattle.std.proofs.Common.{◌≡◌, IfOk, length, sym, ap, subst, ◌∙◌, map as each}
use Rattle.dc_store.specs.Holders.{AreWithin}
use Rattle.dc_conf.specs.Trees.{shape}
use Rattle.dc_store.proofs.Joins.{leaves_within}
use Rattle.dc_store.proofs.ListingLemmas.{owned_seen}
use Rattle.dc_store.proofs.store.Store.owned.Goals as goal

pub owned_names_in-requires : goal.owned_names_in-requires
owned_names_in-requires g c =
    let count = length c.args.self.now.layers.items in
    subst (AreWithin c.as_slice.result.now) (ap length (sym c.as_slice-layers.ensures.value))
    (subst (λ places. AreWithin places count) (sym (c.as_slice.ensures.value ∙ c.in_ok-places.ensures)) (leaves_within (shape c.args.plan.now) count c.requires))

pub returns : goal.returns
returns g c =
    subst (λ wanted. IfOk c.owned_in.result (λ list. list ≡ wanted))
    (owned_seen _ _ c.as_slice.result.now (shape c.args.plan.now) c.args.owner.now c.in_ok-listed.listed c.in_ok-names.names
    (ap (each (λ b. (goal.Layer-dyn g (b.vtable, b.value)).state b.value)) c.as_slice-layers.ensures.value) (c.as_slice.ensures.value ∙ c.in_ok-places.ensures) c.in_ok-listed.ensures c.in_ok-names.ensures.value)
    c.owned_in.ensures
