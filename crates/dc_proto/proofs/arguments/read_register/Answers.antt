use Rattle.dc_proto.proofs.ArgumentLemmas.{register_one, register_long}
use Rattle.dc_proto.proofs.arguments.read_register.Goals as goal

pub returns-in-len1 : goal.returns-in-len1
returns-in-len1 c = rw (register_one c.args.arguments.now c.in-len1.len_at_least c.in-len1.len_below) c.refuse-in-len1.ensures

pub returns-in-len3-up : goal.returns-in-len3-up
returns-in-len3-up c = rw (register_long c.args.arguments.now c.in-len3-up.len_at_least) c.refuse-in-len3-up.ensures
