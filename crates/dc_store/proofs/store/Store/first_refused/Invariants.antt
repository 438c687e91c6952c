use Rattle.std.proofs.Common.{◌≡◌, map as each, drop}
use Rattle.dc_store.specs.Batches.{first_refused}
use Rattle.dc_store.proofs.store.Store.first_refused.Given as goal

abbrev pub invariant-loop-name : goal.invariant-loop-name
invariant-loop-name g l =
    let layers = each (λ b. (goal.Layer-dyn g (b.vtable, b.value)).state b.value) l.self.layers.items in
    first_refused layers l.names l.batch ≡ first_refused layers (drop l.name-index l.names) l.batch
