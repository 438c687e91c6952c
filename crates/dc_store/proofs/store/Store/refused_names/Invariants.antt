use Rattle.std.proofs.Common.{◌≡◌, map as each, take}
use Rattle.dc_store.specs.Batches.{refused_names}
use Rattle.dc_store.proofs.store.Store.refused_names.Given as goal

abbrev pub invariant-loop-write : goal.invariant-loop-write
invariant-loop-write g l =
    l.names ≡ refused_names (each (λ b. (goal.Layer-dyn g (b.vtable, b.value)).state b.value) l.self.layers.items) (take l.write-index l.batch)
