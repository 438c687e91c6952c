use Rattle.std.proofs.Common.{length}
use Rattle.dc_conf.proofs.webs.+shares_flag.Given as goal

abbrev pub decreases-shares_flag : goal.decreases-shares_flag
decreases-shares_flag l = length l.row.now
