use Rattle.dc_question.proofs.PreseedLemmas.{told_by_the_question}
use Rattle.dc_question.proofs.laws.refused_answers_name_the_question.Goals as goal

pub returns : goal.returns
returns c = λ store at owner name kind value unseen error. told_by_the_question store at owner name value kind unseen error
