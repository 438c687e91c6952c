use Rattle.std.proofs.Common.{◌≡◌, ◌++◌, List, length}
use Rattle.dc_item.specs.declared.entry.Entry.{Entry}
use Rattle.dc_layer.specs.State.{LayerState}
use Rattle.dc_save.specs.FileTurns.{with_new}
use Rattle.dc_save.proofs.folder_loading.take_new.Given as goal

abbrev pub invariant-loop-entry : goal.invariant-loop-entry
invariant-loop-entry g l =
    let layer : LayerState = (goal.Layer-dyn g (l.layer.vtable, l.layer.value)).state l.layer.value in
    let first : LayerState = (goal.Layer-dyn g (l.initial.layer.vtable, l.initial.layer.value)).state l.initial.layer.value in
    (done : List Entry) × (l.fn.records ≡ l.left ++ done) × (layer ≡ with_new first done)

abbrev pub decreases-loop-entry : goal.decreases-loop-entry
decreases-loop-entry g l = length l.left
