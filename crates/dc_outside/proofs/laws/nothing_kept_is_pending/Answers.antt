use Rattle.dc_outside.proofs.Moments.{at_rest}
use Rattle.dc_outside.proofs.laws.nothing_kept_is_pending.Goals as goal

pub returns : goal.returns
returns c = at_rest
