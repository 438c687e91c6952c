use Rattle.dc_teletype.proofs.AnsweredLemmas.{all_answered}
use Rattle.dc_teletype.proofs.laws.each_question_has_its_answer.Goals as goal

pub returns : goal.returns
returns c = all_answered
