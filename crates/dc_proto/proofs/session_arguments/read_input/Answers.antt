use Rattle.dc_proto.proofs.ArgumentLemmas.{input_one, input_long}
use Rattle.dc_proto.proofs.session_arguments.read_input.Goals as goal

pub returns-in-len1 : goal.returns-in-len1
returns-in-len1 c = rw (input_one c.args.arguments.now c.in-len1.len_at_least c.in-len1.len_below) c.refuse-in-len1.ensures

pub returns-in-len3-up : goal.returns-in-len3-up
returns-in-len3-up c = rw (input_long c.args.arguments.now c.in-len3-up.len_at_least) c.refuse-in-len3-up.ensures
