use Rattle.std.proofs.Common.{◌≡◌, Some, None, map as each, sym, subst}
use Rattle.std.specs.Prelude.{slice_get}
use Rattle.dc_layer.specs.State.{LayerState, refusal}
use Rattle.dc_store.proofs.boxes.VecBoxDynLayerLayers.change_at.Goals as goal

pub change_in-requires-clause-taken : goal.change_in-requires-clause-taken
change_in-requires-clause-taken g c =
    subst (λ items. (layer : LayerState) → slice_get (each (λ b. (goal.Layer-dyn g (b.vtable, b.value)).state b.value) items) c.args.place ≡ Some layer → refusal layer c.args.name.now c.args.op.now ≡ None)
    (sym c.as_mut_slice.ensures.value) c.requires.taken
