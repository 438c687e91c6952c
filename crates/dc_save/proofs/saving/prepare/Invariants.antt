use Rattle.std.proofs.Common.{◌≡◌, ◌++◌, take, map as each}
use Rattle.dc_save.specs.Saving.{all_images}
use Rattle.dc_save.proofs.saving.prepare.Given as goal

abbrev pub invariant-loop-layer : goal.invariant-loop-layer
invariant-loop-layer l = each (λ s. s.image.now) l.savings.items ≡ all_images (take l.layer-index l.images)

abbrev pub invariant-loop-image : goal.invariant-loop-image
invariant-loop-image l = each (λ s. s.image.now) l.savings.items ≡ each (λ s. s.image.now) l.initial.savings.items ++ take l.image-index l.image-items
