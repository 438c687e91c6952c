use Rattle.dc_conf.proofs.NodeLemmas.{one_plan}
use Rattle.dc_conf.proofs.laws.names_have_one_plan.Goals as goal

pub returns : goal.returns
returns c = one_plan
