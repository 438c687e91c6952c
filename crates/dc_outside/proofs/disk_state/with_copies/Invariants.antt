use Rattle.std.proofs.Common.{◌≡◌, ◌++◌, take}
use Rattle.dc_outside.proofs.disk_state.with_copies.Given as goal

abbrev pub invariant-loop-entry : goal.invariant-loop-entry
invariant-loop-entry l = l.all ≡ l.fn.list ++ take l.entry-index l.entry-items
