use Rattle.std.proofs.Common.{◌≡◌, take, map as each}
use Rattle.dc_table.proofs.touched.names_in.Given as goal

abbrev pub invariant-loop-key : goal.invariant-loop-key
invariant-loop-key l = each (λ name. name.now) l.names.items ≡ take l.key-index l.key-items
