use Rattle.dc_theorem.proofs.BehindLaw.{communicate_up, run_up}
use Rattle.dc_theorem.proofs.completeness.tables_are_not_behind_the_replies.Goals as goal

pub returns-clause-communicate : goal.returns-clause-communicate
returns-clause-communicate c owner settings old new outcome run = communicate_up owner settings old new outcome run

pub returns-clause-run : goal.returns-clause-run
returns-clause-run c owner frontend priority command settings old new outcome run = run_up owner frontend priority command settings old new outcome run
