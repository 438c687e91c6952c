use Rattle.std.proofs.Common.{◌≡◌, [], take, fold, map as each}
use Rattle.dc_table.specs.Tracked.{touch}
use Rattle.dc_table.proofs.touched.set_of.Given as goal

abbrev pub invariant-loop-name : goal.invariant-loop-name
invariant-loop-name l = l.set.keys ≡ fold touch [] (each (λ name. name.now) (take l.name-index l.names))
