use Rattle.std.proofs.Common.{◌≡◌, ◌++◌, map as each, length}
use Rattle.dc_template.specs.Stanzas.{row_line, lines_between_newlines}
use Rattle.dc_text.specs.Lines.{text_of}
use Rattle.dc_template.proofs.printing.print_rows.Given as goal

abbrev pub invariant-loop-line : goal.invariant-loop-line
invariant-loop-line l = l.out ++ text_of (each row_line (lines_between_newlines l.rest)) ≡ l.initial.out ++ text_of (each row_line (lines_between_newlines l.text))

abbrev pub decreases-loop-line : goal.decreases-loop-line
decreases-loop-line l = length l.rest
