use Rattle.std.proofs.Common.{◌≡◌, take, map}
use Rattle.dc_parts.proofs.many.Many.entries.Given as goal

abbrev pub invariant-loop-pair : goal.invariant-loop-pair
invariant-loop-pair l = map (λ e. (e.0.now, e.1.now)) l.entries.items ≡ take l.pair-index l.pair-items
