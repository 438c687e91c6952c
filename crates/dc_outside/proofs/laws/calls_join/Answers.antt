use Rattle.dc_outside.proofs.CallLaws.{join}
use Rattle.dc_outside.proofs.laws.calls_join.Goals as goal

pub returns : goal.returns
returns c = join
