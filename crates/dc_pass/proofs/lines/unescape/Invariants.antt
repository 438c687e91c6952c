use Rattle.std.proofs.Common.{◌≡◌, ◌++◌, List, ℕ, length}
use Rattle.std.specs.Prelude.{option_map}
use Rattle.dc_pass.specs.Machine.{unescaped}
use Rattle.dc_pass.proofs.lines.unescape.Given as goal

abbrev pub invariant-loop-rest : goal.invariant-loop-rest
invariant-loop-rest l = option_map (λ (more : List ℕ). l.text ++ more) (unescaped l.rest) ≡ unescaped l.escaped

abbrev pub decreases-loop-rest : goal.decreases-loop-rest
decreases-loop-rest l = length l.rest
