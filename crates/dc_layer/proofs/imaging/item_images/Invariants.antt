use Rattle.std.proofs.Common.{◌≡◌, take, map as each}
use Rattle.dc_layer.specs.State.{item_image}
use Rattle.dc_layer.proofs.imaging.item_images.Given as goal

abbrev pub invariant-loop-name : goal.invariant-loop-name
invariant-loop-name l = l.images ≡ each (item_image l.spec l.table.items) (each (λ name. name.now) (take l.name-index l.names))
