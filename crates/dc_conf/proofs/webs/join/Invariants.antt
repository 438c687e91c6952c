use Rattle.std.proofs.Common.{◌≡◌, take}
use Rattle.dc_conf.specs.Machine.{joined}
use Rattle.dc_conf.proofs.webs.join.Given as goal

abbrev pub invariant-loop-index : goal.invariant-loop-index
invariant-loop-index l = l.row ≡ joined l.initial.row (take l.index l.other)
