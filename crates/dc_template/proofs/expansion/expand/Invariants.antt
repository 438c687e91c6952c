use Rattle.std.proofs.Common.{◌≡◌, ◌++◌, length}
use Rattle.dc_template.specs.Expansion.{expanded}
use Rattle.dc_template.proofs.expansion.expand.Given as goal

abbrev pub invariant-loop-front : goal.invariant-loop-front
invariant-loop-front g l = l.out ++ expanded (g.V.Variables.values l.variables) l.rest ≡ expanded (g.V.Variables.values l.variables) l.text

abbrev pub decreases-loop-front : goal.decreases-loop-front
decreases-loop-front g l = length l.rest
