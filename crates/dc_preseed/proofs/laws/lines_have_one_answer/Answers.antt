use Rattle.dc_preseed.proofs.SelectionLemmas.{answer_is, one_answer}
use Rattle.dc_preseed.proofs.laws.lines_have_one_answer.Goals as goal

pub returns-clause-some : goal.returns-clause-some
returns-clause-some c = answer_is

pub returns-clause-one : goal.returns-clause-one
returns-clause-one c = one_answer
