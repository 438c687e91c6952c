use Rattle.std.proofs.Common.{◌∙◌, ◌∷◌, ◌++◌, []}
use Rattle.dc_outside.specs.State.{FilesView}
use Rattle.dc_save.proofs.ImageLemmas.{whole_more, told_more, whole_ended}
use Rattle.dc_save.proofs.saving.save_each.Goals as goal

pub loop-saving-preserved : goal.loop-saving-preserved
loop-saving-preserved g c =
    let inv = c.loop-saving.invariant in
    let files : FilesView = (g.F.Files.files c.args.files.now).view in
    let mid : FilesView = (g.F.Files.files c.loop-saving.files).view in (
      inv.0 ++ c.in-Some.saving.image.now ∷ [],
      whole_more (λ s. s.image.now) files mid _ inv.0 _ c.pop.new.self.items c.in-Some.saving inv.1 c.in-Some.ensures.items inv.2,
      told_more (λ s. s.image.now) files mid _ inv.0 _ c.pop.new.self.items c.in-Some.saving inv.1 c.in-Some.ensures.items inv.2 _ c.in-Ok.ensures.saves,
      c.in-Ok.ensures.counts ∙ inv.3,
    )

pub returns-in-Err-clause-saves : goal.returns-in-Err-clause-saves
returns-in-Err-clause-saves g c =
    let inv = c.loop-saving.invariant in
    let files : FilesView = (g.F.Files.files c.args.files.now).view in
    let mid : FilesView = (g.F.Files.files c.loop-saving.files).view in
    whole_ended (λ s. s.image.now) files mid _ inv.0 _ c.pop.new.self.items c.in-Some.saving inv.1 c.in-Some.ensures.items inv.2 _ c.in-Err.error c.in-Err.ensures.saves
