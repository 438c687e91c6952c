use Rattle.std.proofs.Common.{◌≡◌, ◌++◌, List, map as each, drop}
use Rattle.std.specs.List.{list_any}
use Rattle.dc_store.specs.Targets.{AreTargets}
use Rattle.dc_store.specs.Batches.{is_refused}
use Rattle.dc_store.specs.declared.batch.Target.{Target}
use Rattle.dc_store.proofs.store.Store.targets.Given as goal

abbrev pub invariant-loop-write : goal.invariant-loop-write
invariant-loop-write g l =
    let layers = each (λ b. (goal.Layer-dyn g (b.vtable, b.value)).state b.value) l.self.layers.items in
    (list_any (is_refused layers) l.batch ≡ list_any (is_refused layers) (drop l.write-index l.batch))
    × ((more : List Target) → AreTargets layers (drop l.write-index l.batch) more → AreTargets layers l.batch (l.targets.items ++ more))
