use Rattle.dc_proto.proofs.ArgumentLemmas.{progress_start_one, progress_start_two, progress_start_long}
use Rattle.dc_proto.proofs.progress_arguments.read_start.Goals as goal

pub returns-in-len1 : goal.returns-in-len1
returns-in-len1 c = rw (progress_start_one c.args.arguments.now c.in-len1.len_at_least c.in-len1.len_below) c.refuse-in-len1.ensures

pub returns-in-len2 : goal.returns-in-len2
returns-in-len2 c = rw (progress_start_two c.args.arguments.now c.in-len2.len_at_least c.in-len2.len_below) c.refuse-in-len2.ensures

pub returns-in-len4-up : goal.returns-in-len4-up
returns-in-len4-up c = rw (progress_start_long c.args.arguments.now c.in-len4-up.len_at_least) c.refuse-in-len4-up.ensures
