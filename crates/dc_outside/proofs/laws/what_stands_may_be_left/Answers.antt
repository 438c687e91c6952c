use Rattle.dc_outside.proofs.CallLaws.{sound_done}
use Rattle.dc_outside.proofs.laws.what_stands_may_be_left.Goals as goal

pub returns : goal.returns
returns c = sound_done
