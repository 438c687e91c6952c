use Rattle.dc_host.specs.Folders.{Keeps}
use Rattle.dc_host.specs.Locks.{KeepsLocks}
use Rattle.dc_host.proofs.guard.Guard.lock_folder.Given as goal

abbrev pub invariant-loop : goal.invariant-loop
invariant-loop g l = KeepsLocks l.fn.self.locks l.self.locks × Keeps l.fn.changed l.changed
