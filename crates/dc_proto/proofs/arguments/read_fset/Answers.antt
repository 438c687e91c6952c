use Rattle.dc_proto.proofs.ArgumentLemmas.{fset_one, fset_two, fset_long}
use Rattle.dc_proto.proofs.arguments.read_fset.Goals as goal

pub returns-in-len1 : goal.returns-in-len1
returns-in-len1 c = rw (fset_one c.args.arguments.now c.in-len1.len_at_least c.in-len1.len_below) c.refuse-in-len1.ensures

pub returns-in-len2 : goal.returns-in-len2
returns-in-len2 c = rw (fset_two c.args.arguments.now c.in-len2.len_at_least c.in-len2.len_below) c.refuse-in-len2.ensures

pub returns-in-len4-up : goal.returns-in-len4-up
returns-in-len4-up c = rw (fset_long c.args.arguments.now c.in-len4-up.len_at_least) c.refuse-in-len4-up.ensures
