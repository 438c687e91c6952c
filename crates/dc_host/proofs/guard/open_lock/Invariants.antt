use Rattle.dc_host.specs.Folders.{Keeps}
use Rattle.dc_host.proofs.guard.open_lock.Given as goal

abbrev pub invariant-loop : goal.invariant-loop
invariant-loop g l = Keeps l.fn.changed l.changed
