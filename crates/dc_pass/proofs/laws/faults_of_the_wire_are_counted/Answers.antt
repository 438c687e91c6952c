use Rattle.dc_pass.proofs.CountLemmas.{asks_counts, asks_program, asks_end}
use Rattle.dc_pass.proofs.laws.faults_of_the_wire_are_counted.Goals as goal

pub returns-clause-counts : goal.returns-clause-counts
returns-clause-counts c = λ backup title shown before now old new result asks. asks_counts backup title shown before now old new result asks

pub returns-clause-program : goal.returns-clause-program
returns-clause-program c = λ backup title shown before now old new result asks. asks_program backup title shown before now old new result asks

pub returns-clause-end : goal.returns-clause-end
returns-clause-end c = λ backup title shown before now old new result asks. asks_end backup title shown before now old new result asks
