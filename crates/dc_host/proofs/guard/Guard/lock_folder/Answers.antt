use Rattle.dc_host.proofs.FolderLemmas.{keeps_on}
use Rattle.dc_host.proofs.LockLemmas.{keeps_locks_on}
use Rattle.dc_host.proofs.guard.Guard.lock_folder.Goals as goal

pub loop-preserved : goal.loop-preserved
loop-preserved g c = (keeps_locks_on _ _ _ c.loop.invariant.0 c.takes.ensures.locks, keeps_on _ _ _ c.loop.invariant.1 c.open_lock.ensures)
