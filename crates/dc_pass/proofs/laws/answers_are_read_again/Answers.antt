use Rattle.dc_pass.proofs.AnswerLemmas.{answers_again, back_again, sent_whole}
use Rattle.dc_pass.proofs.laws.answers_are_read_again.Goals as goal

pub returns-clause-answers : goal.returns-clause-answers
returns-clause-answers c = λ backup shown answers have. answers_again backup shown answers have

pub returns-clause-back : goal.returns-clause-back
returns-clause-back c = λ shown. back_again shown

pub returns-clause-sent : goal.returns-clause-sent
returns-clause-sent c = λ shown answers are all. sent_whole shown answers are all
