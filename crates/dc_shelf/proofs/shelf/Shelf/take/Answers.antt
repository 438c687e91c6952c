use Rattle.std.proofs.Common.{sym, ap, ◌∙◌}
use Rattle.dc_layer.specs.State.{blank}
use Rattle.dc_shelf.proofs.shelf.Shelf.take.Goals as goal

pub returns-in-File-clause-taken : goal.returns-in-File-clause-taken
returns-in-File-clause-taken g c = c.take_last.ensures.taken _ c.requires.files ∙ ap blank (sym c.in-File.is)

pub returns-in-File-clause-files : goal.returns-in-File-clause-files
returns-in-File-clause-files g c = c.take_last.ensures.left _ c.requires.files

pub returns-in-Tree-clause-taken : goal.returns-in-Tree-clause-taken
returns-in-Tree-clause-taken g c = c.take_last-in-Tree.ensures.taken _ c.requires.trees ∙ ap blank (sym c.in-Tree.is)

pub returns-in-Tree-clause-trees : goal.returns-in-Tree-clause-trees
returns-in-Tree-clause-trees g c = c.take_last-in-Tree.ensures.left _ c.requires.trees

pub returns-in-Pack-clause-taken : goal.returns-in-Pack-clause-taken
returns-in-Pack-clause-taken g c = c.take_last-in-Pack.ensures.taken _ c.requires.packs ∙ ap blank (sym c.in-Pack.is)

pub returns-in-Pack-clause-packs : goal.returns-in-Pack-clause-packs
returns-in-Pack-clause-packs g c = c.take_last-in-Pack.ensures.left _ c.requires.packs

pub returns-in-Pipe-clause-taken : goal.returns-in-Pipe-clause-taken
returns-in-Pipe-clause-taken g c = c.take_last-in-Pipe.ensures.taken _ c.requires.pipes ∙ ap blank (sym c.in-Pipe.is)

pub returns-in-Pipe-clause-pipes : goal.returns-in-Pipe-clause-pipes
returns-in-Pipe-clause-pipes g c = c.take_last-in-Pipe.ensures.left _ c.requires.pipes
