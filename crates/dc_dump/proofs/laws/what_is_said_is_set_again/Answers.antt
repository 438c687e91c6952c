use Rattle.dc_dump.proofs.AgainLemmas.{set_again}
use Rattle.dc_dump.proofs.laws.what_is_said_is_set_again.Goals as goal

pub returns : goal.returns
returns c = set_again
