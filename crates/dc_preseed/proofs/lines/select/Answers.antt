use Rattle.dc_question.proofs.FrameLemmas.{same_asked}
use Rattle.dc_preseed.proofs.lines.select.Goals as goal

pub returns-in_err-flag-in-Seen-clause-frame : goal.returns-in_err-flag-in-Seen-clause-frame
returns-in_err-flag-in-Seen-clause-frame g c = same_asked _ _
