use Rattle.std.proofs.Common.{◌≡◌, map as each, take}
use Rattle.std.specs.List.{flat_map}
use Rattle.dc_store.specs.Plans.{names_at}
use Rattle.dc_store.proofs.listing.names_in.Given as goal

abbrev pub invariant-loop-place : goal.invariant-loop-place
invariant-loop-place g l =
    l.names ≡ flat_map (names_at (each (λ b. (goal.Layer-dyn g (b.vtable, b.value)).state b.value) l.layers)) (take l.place-index l.places)
