use Rattle.dc_question.proofs.FrameLemmas.{same_asked}
use Rattle.dc_question.proofs.questions.Questions.reset.Goals as goal

pub returns-in_err-copy-clause-frame : goal.returns-in_err-copy-clause-frame
returns-in_err-copy-clause-frame g c = same_asked _ _

pub returns-in_default-clause-frame : goal.returns-in_default-clause-frame
returns-in_default-clause-frame g c = same_asked _ _

pub returns-in_err-item-clause-frame : goal.returns-in_err-item-clause-frame
returns-in_err-item-clause-frame g c = same_asked _ _
