use Rattle.std.proofs.Common.{◌≡◌, ◌++◌, ◌∷◌, drop}
use Rattle.std.specs.List.{flat_map}
use Rattle.dc_batch.proofs.printing.append_spaced.Given as goal

abbrev pub invariant-loop-word : goal.invariant-loop-word
invariant-loop-word l = l.line ++ flat_map (λ word. 32 ∷ word) (drop l.word-index l.words) ≡ l.initial.line ++ flat_map (λ word. 32 ∷ word) l.words
