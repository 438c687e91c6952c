use Rattle.std.proofs.Common.{◌≡◌, ◌++◌, List, reverse, length, map as each}
use Rattle.dc_layer.specs.declared.image.Image.{Image}
use Rattle.dc_outside.specs.State.{FilesView}
use Rattle.dc_save.specs.Saving.{after_images}
use Rattle.dc_save.proofs.saving.save_each.Given as goal

abbrev pub invariant-loop-saving : goal.invariant-loop-saving
invariant-loop-saving g l =
    let files : FilesView = (g.F.Files.files l.initial.files).view in
    let now : FilesView = (g.F.Files.files l.files).view in
    (done : List Image)
    × (reverse (each (λ s. s.image.now) l.fn.savings.items) ≡ done ++ reverse (each (λ s. s.image.now) l.left.items))
    × (now ≡ after_images files done)
    × ((g.F.Files.files l.files).counts ≡ (g.F.Files.files l.initial.files).counts)

abbrev pub decreases-loop-saving : goal.decreases-loop-saving
decreases-loop-saving g l = length l.left.items
