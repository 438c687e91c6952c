use Rattle.dc_cli.proofs.AnswerLemmas.{one_tool, one_place}
use Rattle.dc_cli.proofs.laws.words_have_one_answer.Goals as goal

pub returns-clause-tool : goal.returns-clause-tool
returns-clause-tool c = one_tool

pub returns-clause-refused : goal.returns-clause-refused
returns-clause-refused c = λ words tool place named refused. refused.refused (tool, named)

pub returns-clause-place : goal.returns-clause-place
returns-clause-place c = one_place
