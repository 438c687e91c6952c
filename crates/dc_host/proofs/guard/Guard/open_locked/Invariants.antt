use Rattle.std.proofs.Common.{◌≡◌}
use Rattle.dc_host.specs.Locks.{KeepsLocks}
use Rattle.dc_host.proofs.guard.Guard.open_locked.Given as goal

abbrev pub invariant-loop : goal.invariant-loop
invariant-loop g l = KeepsLocks l.fn.self.locks l.self.locks × (l.self.known ≡ l.fn.self.known)
