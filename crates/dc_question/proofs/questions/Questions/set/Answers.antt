use Rattle.dc_question.proofs.FrameLemmas.{same_asked}
use Rattle.dc_question.proofs.questions.Questions.set.Goals as goal

pub returns-in_err-key-clause-frame : goal.returns-in_err-key-clause-frame
returns-in_err-key-clause-frame g c = same_asked _ _

pub returns-in_err-value-clause-frame : goal.returns-in_err-value-clause-frame
returns-in_err-value-clause-frame g c = same_asked _ _
