use Rattle.dc_theorem.proofs.AnswersLaw.{communicate_answered, program_answered}
use Rattle.dc_theorem.proofs.completeness.each_line_has_its_reply.Goals as goal

pub returns-clause-communicate : goal.returns-clause-communicate
returns-clause-communicate c owner settings old new outcome run = communicate_answered owner settings old new outcome run

pub returns-clause-run : goal.returns-clause-run
returns-clause-run c owner frontend priority command settings old new outcome run = program_answered owner frontend priority command settings old new outcome run
