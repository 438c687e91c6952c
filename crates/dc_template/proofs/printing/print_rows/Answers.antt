use Rattle.std.proofs.lemmas.Result.{on_ok_weaker}
use Rattle.dc_template.proofs.PrintLemmas.{rows_turn, rows_end}
use Rattle.dc_template.proofs.printing.print_rows.Goals as goal

pub loop-line-preserved : goal.loop-line-preserved
loop-line-preserved c =
    rows_turn c.loop-line.out c.print_row.new.out _ c.loop-line.rest.now c.in-Some.line.now c.in-Some.after.now c.in_ok-print_row.ensures
    c.in-Some.ensures.0 c.in-Some.ensures.1 c.in-Some.ensures.2 c.loop-line.invariant

pub returns : goal.returns
returns c = on_ok_weaker c.print_row-2.result (λ e. rows_end c.loop-line.out c.print_row-2.new.out _ c.loop-line.rest.now e c.in_default.ensures c.loop-line.invariant) c.print_row-2.ensures
