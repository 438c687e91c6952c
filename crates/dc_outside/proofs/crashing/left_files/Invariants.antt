use Rattle.std.proofs.Common.{ℕ, List, map as each}
use Rattle.dc_outside.specs.Disk.{CrashOutcome}
use Rattle.dc_outside.proofs.LeftFiles.{IsLeft}
use Rattle.dc_outside.proofs.crashing.left_files.Given as goal

-- each path is done or left
abbrev pub invariant-loop-path : goal.invariant-loop-path
invariant-loop-path l = (q : List ℕ) → IsLeft l.pick (record { current = l.current; past = l.past }) l.files (each (λ (e : List ℕ × CrashOutcome). e.0) (each (λ e. (e.0.items, e.1)) l.path-iterator)) q
