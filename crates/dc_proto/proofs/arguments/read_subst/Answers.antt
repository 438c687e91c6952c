use Rattle.dc_proto.proofs.ArgumentLemmas.{subst_one}
use Rattle.dc_proto.proofs.arguments.read_subst.Goals as goal

pub returns-in-len1 : goal.returns-in-len1
returns-in-len1 c = rw (subst_one c.args.arguments.now c.in-len1.len_at_least c.in-len1.len_below) c.refuse-in-len1.ensures
