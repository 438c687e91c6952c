use Rattle.dc_run.proofs.ProgramLemmas.{is_run}
use Rattle.dc_run.proofs.laws.a_run_counts_and_keeps.Goals as goal

pub returns : goal.returns
returns c = is_run
