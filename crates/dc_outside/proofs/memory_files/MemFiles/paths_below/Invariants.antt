use Rattle.std.proofs.Common.{◌≡◌, ◌++◌, List, ℕ, map as each}
use Rattle.std.specs.List.{filter_map}
use Rattle.dc_outside.specs.Disk.{File, after_front, paths_below}
use Rattle.dc_outside.proofs.memory_files.MemFiles.paths_below.Given as goal

-- what was found, and what is found in the paths that are left
abbrev pub invariant-loop-path : goal.invariant-loop-path
invariant-loop-path l = l.found ++ filter_map (after_front l.front) (each (λ (e : List ℕ × File). e.0) (each (λ e. (e.0.items, e.1)) l.path-iterator)) ≡ paths_below l.self.disk l.dir
