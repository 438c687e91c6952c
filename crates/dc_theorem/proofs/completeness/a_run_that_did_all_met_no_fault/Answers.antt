use Rattle.dc_theorem.proofs.CallsLaw.{behind_stays, fails_at_most}
use Rattle.dc_theorem.proofs.WriteLaw.{met_none}
use Rattle.dc_theorem.proofs.completeness.a_run_that_did_all_met_no_fault.Goals as goal

pub returns-clause-files : goal.returns-clause-files
returns-clause-files c used settings old new outcome run = fails_at_most used settings old new outcome run

pub returns-clause-behind : goal.returns-clause-behind
returns-clause-behind c used settings old new outcome run = behind_stays used settings old new outcome run

pub returns-clause-links : goal.returns-clause-links
returns-clause-links c words settings old new outcome saves = met_none words settings old new outcome saves
