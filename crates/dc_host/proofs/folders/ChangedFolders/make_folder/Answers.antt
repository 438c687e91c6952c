use Rattle.dc_host.proofs.FolderLemmas.{keeps_with}
use Rattle.dc_host.proofs.folders.ChangedFolders.make_folder.Goals as goal

pub loop-above-preserved : goal.loop-above-preserved
loop-above-preserved g c = λ folder kept. rw (rw c.in_ok-mark.was at c.mark.ensures.ok) (keeps_with _ _ folder (c.loop-above.invariant folder kept))
