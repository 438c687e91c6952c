use Rattle.std.proofs.Common.{◌≡◌, List, ℕ, map as each}
use Rattle.std.specs.List.{list_any}
use Rattle.std.specs.FinMap as map
use Rattle.dc_host.specs.Locks.{is_of}
use Rattle.dc_host.proofs.locks.Locks.has_placed.Given as goal

-- none of those so far is of the file
abbrev pub invariant-loop-lock : goal.invariant-loop-lock
invariant-loop-lock g l = list_any (is_of l.id) (map.values l.self.placed) ≡ list_any (λ e. is_of l.id e.1) l.lock-iterator
