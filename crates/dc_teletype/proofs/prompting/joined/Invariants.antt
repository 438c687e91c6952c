use Rattle.std.proofs.Common.{◌≡◌, [], ◌∷◌, ◌++◌, length}
use Rattle.std.specs.List.{join_by}
use Rattle.dc_teletype.proofs.prompting.joined.Given as goal

abbrev pub invariant-loop-rest : goal.invariant-loop-rest
invariant-loop-rest l = l.all ++ join_by (λ text. text) (l.between ∷ []) l.rest ≡ join_by (λ text. text) (l.between ∷ []) l.texts

abbrev pub decreases-loop-rest : goal.decreases-loop-rest
decreases-loop-rest l = length l.rest
