use Rattle.dc_proto.proofs.ArgumentLemmas.{version_long}
use Rattle.dc_proto.proofs.session_arguments.read_version.Goals as goal

pub returns-in-len2-up : goal.returns-in-len2-up
returns-in-len2-up c = rw (version_long c.args.arguments.now c.in-len2-up.len_at_least) c.refuse.ensures
