use Rattle.std.proofs.Common.{◌≡◌, take}
use Rattle.dc_parts.proofs.many.Many.copy.Given as goal

abbrev pub invariant-loop-pair : goal.invariant-loop-pair
invariant-loop-pair l = l.pairs.items ≡ take l.pair-index l.pair-items
