use Rattle.std.proofs.Common.{map as each, ap, ◌∙◌}
use Rattle.dc_store.specs.Writes.{takes_at}
use Rattle.dc_store.proofs.boxes.VecBoxDynLayerLayers.takes_at.Goals as goal

pub returns-in-Ok : goal.returns-in-Ok
returns-in-Ok g c = c.in-Ok.ensures ∙ ap (λ items. takes_at (each (λ b. (goal.Layer-dyn g (b.vtable, b.value)).state b.value) items) c.args.name.now c.args.kind c.args.place) c.as_slice.ensures.value
