use Rattle.dc_answer.proofs.CountLemmas.{taken_counted, lost_counted}
use Rattle.dc_answer.proofs.laws.faults_of_the_terminal_are_counted.Goals as goal

pub returns-clause-taken : goal.returns-clause-taken
returns-clause-taken c = taken_counted

pub returns-clause-lost : goal.returns-clause-lost
returns-clause-lost c = lost_counted
