use Rattle.dc_proto.proofs.ArgumentLemmas.{get_long}
use Rattle.dc_proto.proofs.arguments.read_get.Goals as goal

pub returns-in-len2-up : goal.returns-in-len2-up
returns-in-len2-up c = rw (get_long c.args.arguments.now c.in-len2-up.len_at_least) c.refuse-in-len2-up.ensures
