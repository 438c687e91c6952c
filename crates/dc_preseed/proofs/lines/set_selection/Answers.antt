use Rattle.std.proofs.lemmas.Result.{err_from_is_err_and}
use Rattle.dc_question.proofs.FrameLemmas.{same_asked}
use Rattle.dc_preseed.proofs.LineLemmas.{refused_sets}
use Rattle.dc_preseed.proofs.lines.set_selection.Goals as goal

pub returns-then-check-clause-frame : goal.returns-then-check-clause-frame
returns-then-check-clause-frame g c = same_asked _ _

pub returns-in_err-select-clause-does : goal.returns-in_err-select-clause-does
returns-in_err-select-clause-does g c =
    let p = err_from_is_err_and c.from_residual.result c.from_residual.ensures.1 in
    rw (p.1, c.if-check.false) (refused_sets (Unit {0}) c.in_err-select.field-0.0 p.0 _ _ _ _ p.2 c.in_err-select.ensures.does)
