use Rattle.dc_theorem.proofs.AnswerLaw.{answerer_alike}
use Rattle.dc_theorem.proofs.CommunicateLaw.{communicate_alike}
use Rattle.dc_theorem.proofs.CopyLaw.{copy_alike}
use Rattle.dc_theorem.proofs.LoadLaw.{load_alike}
use Rattle.dc_theorem.proofs.RunLaw.{program_alike}
use Rattle.dc_theorem.proofs.SelectLaw.{select_alike}
use Rattle.dc_theorem.proofs.ToolLaws.{answers_alike, show_alike}
use Rattle.dc_theorem.proofs.laws.what_comes_in_determines_the_run.Goals as goal

pub returns-clause-communicate : goal.returns-clause-communicate
returns-clause-communicate c words owner settings disk calls one new other last outcome again input = communicate_alike words owner settings disk calls one new other last outcome again input

pub returns-clause-run : goal.returns-clause-run
returns-clause-run c words owner frontend priority command settings disk calls one new other last outcome again input = program_alike words owner frontend priority command settings disk calls one new other last outcome again input

pub returns-clause-loadtemplate : goal.returns-clause-loadtemplate
returns-clause-loadtemplate c words owner paths settings disk calls one new other last outcome again = load_alike words owner paths settings disk calls one new other last outcome again

pub returns-clause-show : goal.returns-clause-show
returns-clause-show c words database shown settings disk calls one new other last outcome again = show_alike words database shown settings disk calls one new other last outcome again

pub returns-clause-get_selections : goal.returns-clause-get_selections
returns-clause-get_selections c words settings disk calls one new other last outcome again = answers_alike words settings disk calls one new other last outcome again

pub returns-clause-copydb : goal.returns-clause-copydb
returns-clause-copydb c words copy settings disk calls one new other last outcome again = copy_alike words copy settings disk calls one new other last outcome again

pub returns-clause-set_selections : goal.returns-clause-set_selections
returns-clause-set_selections c words verbose check unseen settings disk calls one new other last outcome again input =
    select_alike words verbose check unseen settings disk calls one new other last outcome again input

pub returns-clause-answer : goal.returns-clause-answer
returns-clause-answer c words command settings disk calls one new other last outcome again input = answerer_alike words command settings disk calls one new other last outcome again input
