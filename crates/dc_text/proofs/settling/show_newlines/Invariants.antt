use Rattle.std.proofs.Common.{◌≡◌, ◌++◌, length}
use Rattle.dc_text.specs.Settled.{newlines_shown}
use Rattle.dc_text.proofs.settling.show_newlines.Given as goal

abbrev pub invariant-loop-line : goal.invariant-loop-line
invariant-loop-line l = l.text ++ newlines_shown l.rest ≡ newlines_shown l.bytes

abbrev pub decreases-loop-line : goal.decreases-loop-line
decreases-loop-line l = length l.rest
