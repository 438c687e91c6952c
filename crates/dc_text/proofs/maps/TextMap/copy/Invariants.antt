use Rattle.std.proofs.Common.{◌≡◌, ◌++◌}
use Rattle.std.specs.FinMap as map
use Rattle.dc_text.proofs.MapLemmas.{seen}
use Rattle.dc_text.proofs.maps.TextMap.copy.Given as goal

abbrev pub invariant-loop-key : goal.invariant-loop-key
invariant-loop-key g l = map.entries l.copy ++ seen (λ k. k.items) l.key-iterator ≡ map.entries l.self
