use Rattle.dc_run.proofs.UsedLemmas.{as_used}
use Rattle.dc_run.proofs.laws.a_run_of_a_tool_is_said_at_once.Goals as goal

pub returns : goal.returns
returns c = as_used
