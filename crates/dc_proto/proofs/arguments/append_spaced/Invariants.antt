use Rattle.std.proofs.Common.{◌≡◌, ◌++◌, ◌∷◌, drop}
use Rattle.std.specs.List.{flat_map}
use Rattle.dc_proto.proofs.arguments.append_spaced.Given as goal

abbrev pub invariant-loop-word : goal.invariant-loop-word
invariant-loop-word l = l.value ++ flat_map (λ later. 32 ∷ later) (drop l.word-index l.words) ≡ l.initial.value ++ flat_map (λ later. 32 ∷ later) l.words
