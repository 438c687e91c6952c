use Rattle.std.proofs.Common.{◌≡◌, ◌++◌, List, ℕ, map as each}
use Rattle.std.specs.FinMap as map
use Rattle.dc_host.proofs.files.known_paths.Given as goal

-- the paths so far, and those of the entries that are left
abbrev pub invariant-loop-path : goal.invariant-loop-path
invariant-loop-path g l = record {
  paths : l.paths ++ each (λ (e : List ℕ × Unit {0}). e.0) (each (λ e. (e.0.items, e.1)) l.path-iterator) ≡ map.keys l.found;
  locks : l.guard.locks ≡ l.fn.guard.locks;
  written : l.guard.written ≡ l.fn.guard.written;
}
