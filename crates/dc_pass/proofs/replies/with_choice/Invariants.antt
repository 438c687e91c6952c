use Rattle.std.proofs.Common.{◌≡◌, ℕ, List, drop}
use Rattle.std.specs.Prelude.{◌||◌}
use Rattle.std.specs.List.{list_any}
use Rattle.dc_pass.specs.Wire.{are_further}
use Rattle.dc_pass.specs.Hearing.{goes_further}
use Rattle.dc_pass.proofs.replies.with_choice.Given as goal

abbrev pub invariant-loop-at : goal.invariant-loop-at
invariant-loop-at l = (rest : List (List ℕ)) → (list_any (λ (at : ℕ). are_further rest (drop at l.text)) l.more || list_any (goes_further rest l.piece l.text) (drop l.at-index l.at-items))
    ≡ list_any (goes_further rest l.piece l.text) l.at-items
