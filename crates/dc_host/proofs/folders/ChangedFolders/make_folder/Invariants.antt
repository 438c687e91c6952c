use Rattle.dc_host.specs.Folders.{Keeps}
use Rattle.dc_host.proofs.folders.ChangedFolders.make_folder.Given as goal

abbrev pub invariant-loop-above : goal.invariant-loop-above
invariant-loop-above g l = Keeps l.initial.self l.self
