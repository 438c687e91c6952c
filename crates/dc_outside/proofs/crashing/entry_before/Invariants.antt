use Rattle.std.proofs.Common.{◌≡◌, None, drop}
use Rattle.std.specs.Option.{option_copied}
use Rattle.dc_outside.specs.Crash.{entry_before}
use Rattle.dc_outside.proofs.crashing.entry_before.Given as goal

-- what was found, and the moments that are left
abbrev pub invariant-loop-current : goal.invariant-loop-current
invariant-loop-current l = entry_before l.path (option_copied l.last) (drop l.current-index l.past) ≡ entry_before l.path None l.past
