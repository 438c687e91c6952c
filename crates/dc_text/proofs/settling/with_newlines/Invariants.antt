use Rattle.std.proofs.Common.{◌≡◌, ◌++◌, length}
use Rattle.dc_text.specs.Settled.{settled}
use Rattle.dc_text.proofs.settling.with_newlines.Given as goal

abbrev pub invariant-loop-plain : goal.invariant-loop-plain
invariant-loop-plain l = l.text ++ settled l.rest ≡ settled l.bytes

abbrev pub decreases-loop-plain : goal.decreases-loop-plain
decreases-loop-plain l = length l.rest
