use Rattle.dc_proto.proofs.ArgumentLemmas.{load_long}
use Rattle.dc_proto.proofs.arguments.read_load_template_file.Goals as goal

pub returns-in-len3-up : goal.returns-in-len3-up
returns-in-len3-up c = rw (load_long c.args.arguments.now c.in-len3-up.len_at_least) c.refuse-in-len3-up.ensures
