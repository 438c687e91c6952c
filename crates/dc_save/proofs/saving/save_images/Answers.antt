use Rattle.std.proofs.Common.{List, Err, inl, refl, map as each}
use Rattle.dc_outside.specs.State.{FilesView}
use Rattle.dc_layer.specs.declared.image.Image.{Image}
use Rattle.dc_save.specs.declared.saving.SaveError.TheVariants.{OutOfMemory}
use Rattle.dc_save.specs.Saving.{all_images}
use Rattle.dc_save.proofs.Ends.{ends}
use Rattle.dc_save.proofs.ImageLemmas.{reversed_saves}
use Rattle.dc_save.proofs.DiskState.{every_moment}
use Rattle.dc_save.proofs.saving.save_images.Goals as goal

pub returns-in-Err-clause-ends : goal.returns-in-Err-clause-ends
returns-in-Err-clause-ends g c = let files : FilesView = (g.F.Files.files c.args.files.now).view in ends (all_images c.args.images.now) files files (Err OutOfMemory) (inl refl)

pub returns-in-Ok-clause-moments : goal.returns-in-Ok-clause-moments
returns-in-Ok-clause-moments g c =
    let images : List Image = all_images c.args.images.now in
    let old : FilesView = (g.F.Files.files c.args.files.now).view in
    let new : FilesView = (g.F.Files.files c.save_each.new.files).view in
    every_moment images old new c.save_each.result (reversed_saves (each (λ s. s.image.now) c.in-Ok.savings.items) images c.in-Ok.ensures old new c.save_each.result c.save_each.ensures.saves)

pub returns-in-Ok-clause-ends : goal.returns-in-Ok-clause-ends
returns-in-Ok-clause-ends g c =
    let images : List Image = all_images c.args.images.now in
    let old : FilesView = (g.F.Files.files c.args.files.now).view in
    let new : FilesView = (g.F.Files.files c.save_each.new.files).view in
    ends images old new c.save_each.result (reversed_saves (each (λ s. s.image.now) c.in-Ok.savings.items) images c.in-Ok.ensures old new c.save_each.result c.save_each.ensures.saves)
