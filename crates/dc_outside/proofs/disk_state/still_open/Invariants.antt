use Rattle.std.proofs.Common.{◌≡◌, ℕ, List, map as each}
use Rattle.std.specs.FinMap as map
use Rattle.dc_outside.specs.Disk.{CrashOutcome}
use Rattle.dc_outside.proofs.StillOpen.{kept_of, stays}
use Rattle.dc_outside.proofs.disk_state.still_open.Given as goal

-- what was kept, and what is kept of the paths that are left
abbrev pub invariant-loop-path : goal.invariant-loop-path
invariant-loop-path l = kept_of (stays l.pending) l.kept (each (λ (e : List ℕ × CrashOutcome). e.0) (each (λ e. (e.0.items, e.1)) l.path-iterator)) ≡ kept_of (stays l.pending) map.empty (map.keys l.pending)
