use Rattle.std.proofs.Common.{◌≡◌, ◌++◌, length}
use Rattle.dc_teletype.specs.Columns.{paragraph, spaced_words}
use Rattle.dc_teletype.specs.Inside.{begun}
use Rattle.dc_teletype.proofs.wrapping.fill_lines.Given as goal

abbrev pub invariant-loop-rest : goal.invariant-loop-rest
invariant-loop-rest l = l.lines ++ begun l.columns l.begun (spaced_words l.rest) ≡ l.initial.lines ++ paragraph l.columns (spaced_words l.line)

abbrev pub decreases-loop-rest : goal.decreases-loop-rest
decreases-loop-rest l = length l.rest
