use Rattle.std.proofs.Common.{◌≡◌, take, map}
use Rattle.dc_parts.proofs.many.Many.from_sorted.Given as goal

abbrev pub invariant-loop-key : goal.invariant-loop-key
invariant-loop-key l = l.pairs.items ≡ map (λ e. (e.0.now, e.1.now)) (take l.key-index l.entries)
