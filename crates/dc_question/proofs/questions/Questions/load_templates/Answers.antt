use Rattle.dc_question.proofs.FrameLemmas.{all_same_asked}
use Rattle.dc_question.proofs.questions.Questions.load_templates.Goals as goal

pub returns-in_err-copy-clause-frame : goal.returns-in_err-copy-clause-frame
returns-in_err-copy-clause-frame g c = all_same_asked _ _

pub returns-in-Some-clause-frame : goal.returns-in-Some-clause-frame
returns-in-Some-clause-frame g c = all_same_asked _ _
