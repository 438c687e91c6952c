use Rattle.dc_proto.proofs.ArgumentLemmas.{unregister_long}
use Rattle.dc_proto.proofs.arguments.read_unregister.Goals as goal

pub returns-in-len2-up : goal.returns-in-len2-up
returns-in-len2-up c = rw (unregister_long c.args.arguments.now c.in-len2-up.len_at_least) c.refuse-in-len2-up.ensures
