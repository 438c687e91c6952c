use Rattle.dc_conf.proofs.NodeLemmas.{reaching}
use Rattle.dc_conf.proofs.laws.reaching_is_tested.Goals as goal

pub returns : goal.returns
returns c = reaching
