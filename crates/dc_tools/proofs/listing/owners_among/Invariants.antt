use Rattle.std.proofs.Common.{◌≡◌, map as each, take}
use Rattle.std.specs.List.{flat_map}
use Rattle.dc_text.specs.Maps.{set_of}
use Rattle.dc_conf.specs.Trees.{shape}
use Rattle.dc_tools.specs.Listing.{owners_of}
use Rattle.dc_tools.proofs.listing.owners_among.Given as goal

abbrev pub invariant-loop-name : goal.invariant-loop-name
invariant-loop-name g l =
    let layers = each (λ b. (goal.Layer-dyn g (b.vtable, b.value)).state b.value) l.store.layers.items in
    l.owners ≡ set_of (flat_map (owners_of layers (shape l.plan)) (take l.name-index l.names))
