use Rattle.dc_question.proofs.FrameLemmas.{same_asked}
use Rattle.dc_question.proofs.questions.Questions.set_flag.Goals as goal

pub returns-in_err-flag-clause-frame : goal.returns-in_err-flag-clause-frame
returns-in_err-flag-clause-frame g c = same_asked _ _
