use Rattle.dc_proto.proofs.ArgumentLemmas.{progress_set_long}
use Rattle.dc_proto.proofs.progress_arguments.read_set.Goals as goal

pub returns-in-len2-up : goal.returns-in-len2-up
returns-in-len2-up c = rw (progress_set_long c.args.arguments.now c.in-len2-up.len_at_least) c.refuse-in-len2-up.ensures
