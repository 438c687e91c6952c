use Rattle.std.proofs.Common.{◌≡◌, take, map as each}
use Rattle.indexmap.specs.IndexMap.{keys}
use Rattle.dc_table.specs.Marks.{name_at}
use Rattle.dc_table.proofs.touched.names_at.Given as goal

abbrev pub invariant-loop-place : goal.invariant-loop-place
invariant-loop-place l = each (λ name. name.now) l.names.items ≡ each (name_at (keys l.items)) (take l.place-index l.places)
