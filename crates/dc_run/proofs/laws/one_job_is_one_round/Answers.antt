use Rattle.dc_run.proofs.RoundLemmas.{one_round}
use Rattle.dc_run.proofs.laws.one_job_is_one_round.Goals as goal

pub returns : goal.returns
returns c = one_round
