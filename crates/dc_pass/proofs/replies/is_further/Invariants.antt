use Rattle.std.proofs.Common.{◌≡◌, ℕ, drop, length}
use Rattle.std.specs.List.{list_any}
use Rattle.dc_pass.specs.Wire.{are_further}
use Rattle.dc_pass.proofs.replies.is_further.Given as goal

abbrev pub invariant-loop-rest : goal.invariant-loop-rest
invariant-loop-rest l = list_any (λ (at : ℕ). are_further l.rest (drop at l.text)) l.ways ≡ are_further l.choices l.text

abbrev pub decreases-loop-rest : goal.decreases-loop-rest
decreases-loop-rest l = length l.rest
