use Rattle.std.proofs.Common.{◌≡◌, ◌∷◌, ◌++◌, [], false, length}
use Rattle.dc_template.specs.Expansion.{closes, expanded}
use Rattle.dc_template.proofs.expansion.append_expanded.Given as goal

abbrev pub invariant-loop-rest : goal.invariant-loop-rest
invariant-loop-rest g l = record {
  closed : closes l.rest ≡ false;
  so_far : l.out ++ expanded (g.V.Variables.values l.variables) (l.rest ++ 125 ∷ []) ≡ l.initial.out ++ expanded (g.V.Variables.values l.variables) (l.front ++ 125 ∷ []);
}

abbrev pub decreases-loop-rest : goal.decreases-loop-rest
decreases-loop-rest g l = length l.rest
