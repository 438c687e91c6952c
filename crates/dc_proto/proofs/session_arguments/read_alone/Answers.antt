use Rattle.dc_proto.proofs.ArgumentLemmas.{alone_long}
use Rattle.dc_proto.proofs.session_arguments.read_alone.Goals as goal

pub returns-in-len1-up : goal.returns-in-len1-up
returns-in-len1-up c = rw (alone_long c.args.command c.args.arguments.now c.in-len1-up.len_at_least) c.refuse.ensures
