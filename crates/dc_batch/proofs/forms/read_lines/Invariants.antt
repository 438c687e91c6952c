use Rattle.std.proofs.Common.{◌≡◌, ◌+◌, ◌≤◌, ◌++◌, length}
use Rattle.dc_text.specs.Lines.{lines_of}
use Rattle.dc_batch.specs.Forms.{lines_from, lines_in}
use Rattle.dc_batch.proofs.forms.read_lines.Given as goal

abbrev pub invariant-loop-rest : goal.invariant-loop-rest
invariant-loop-rest l = record {
  read : l.lines ++ lines_from (l.number + 1) (lines_of l.rest) ≡ lines_in l.text;
  counted : l.number + length l.rest ≤ length l.text;
}

abbrev pub decreases-loop-rest : goal.decreases-loop-rest
decreases-loop-rest l = length l.rest
