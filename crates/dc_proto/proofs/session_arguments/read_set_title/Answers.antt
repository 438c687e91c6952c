use Rattle.dc_proto.proofs.ArgumentLemmas.{set_title_long}
use Rattle.dc_proto.proofs.session_arguments.read_set_title.Goals as goal

pub returns-in-len2-up : goal.returns-in-len2-up
returns-in-len2-up c = rw (set_title_long c.args.arguments.now c.in-len2-up.len_at_least) c.refuse-in-len2-up.ensures
