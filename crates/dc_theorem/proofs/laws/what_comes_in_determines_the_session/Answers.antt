use Rattle.dc_theorem.proofs.SameRuns.{sessions_alike}
use Rattle.dc_theorem.proofs.laws.what_comes_in_determines_the_session.Goals as goal

pub returns : goal.returns
returns c = sessions_alike
