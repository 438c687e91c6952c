use Rattle.std.proofs.Common.{◌≡◌, map as each, take}
use Rattle.std.specs.List.{flat_map}
use Rattle.dc_store.specs.Listings.{owned_at}
use Rattle.dc_store.proofs.listing.owned_names_in.Given as goal

abbrev pub invariant-loop-place : goal.invariant-loop-place
invariant-loop-place g l =
    l.names ≡ flat_map (owned_at (each (λ b. (goal.Layer-dyn g (b.vtable, b.value)).state b.value) l.layers) l.owner) (take l.place-index l.places)
