use Rattle.dc_session.specs.declared.stepped.StepError.TheVariants as step
use Rattle.dc_session.proofs.TerminalLaws.{breaks_count, course_counts, never_fails}
use Rattle.dc_session.proofs.laws.terminal_faults_are_counted.Goals as goal

pub returns-clause-failed : goal.returns-clause-failed
returns-clause-failed c old new line aborts = breaks_count old new line step.Term aborts

pub returns-clause-stays : goal.returns-clause-stays
returns-clause-stays c start transitions course = course_counts start transitions course

pub returns-clause-nobody : goal.returns-clause-nobody
returns-clause-nobody c old new line nobody aborts = never_fails old new line nobody aborts
