use Rattle.dc_outside.proofs.CallLaws.{left_at}
use Rattle.dc_outside.proofs.laws.moments_begin_now.Goals as goal

pub returns : goal.returns
returns c = left_at
