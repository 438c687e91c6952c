use Rattle.std.proofs.Common.{◌≡◌, length}
use Rattle.dc_conf.specs.Nodes.{two_meet}
use Rattle.dc_conf.proofs.RowLemmas.{Meeting}
use Rattle.dc_conf.proofs.webs.Web.two_meet.Given as goal

abbrev pub invariant-loop-rest : goal.invariant-loop-rest
invariant-loop-rest l = record {
  meeting : Meeting l.self l.led.items l.rest (two_meet l.self l.names);
  long : length l.led.items ≡ length l.self;
}

abbrev pub decreases-loop-rest : goal.decreases-loop-rest
decreases-loop-rest l = length l.rest
