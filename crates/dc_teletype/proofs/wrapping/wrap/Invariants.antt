use Rattle.std.proofs.Common.{◌≡◌, ◌++◌, length}
use Rattle.std.specs.List.{flat_map}
use Rattle.dc_text.specs.Lines.{lines_of}
use Rattle.dc_teletype.specs.Columns.{wrapped, wrapped_line}
use Rattle.dc_teletype.proofs.wrapping.wrap.Given as goal

abbrev pub invariant-loop-rest : goal.invariant-loop-rest
invariant-loop-rest l = l.lines ++ flat_map (wrapped_line l.columns) (lines_of l.rest) ≡ wrapped l.columns l.text

abbrev pub decreases-loop-rest : goal.decreases-loop-rest
decreases-loop-rest l = length l.rest
