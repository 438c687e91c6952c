use Rattle.dc_run.proofs.Kills.{keeps_saves}
use Rattle.dc_run.proofs.laws.a_kill_leaves_old_or_new.Goals as goal

pub returns : goal.returns
returns c = keeps_saves
