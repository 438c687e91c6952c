use Rattle.std.proofs.Common.{◌≡◌, length}
use Rattle.dc_layer.specs.Patterns.{stands_somewhere}
use Rattle.dc_layer.proofs.plain.stands_somewhere.Given as goal

abbrev pub invariant-loop-rest : goal.invariant-loop-rest
invariant-loop-rest l = stands_somewhere l.ignore_case l.at_end l.core l.rest ≡ stands_somewhere l.ignore_case l.at_end l.core l.bytes

abbrev pub decreases-loop-rest : goal.decreases-loop-rest
decreases-loop-rest l = length l.rest
