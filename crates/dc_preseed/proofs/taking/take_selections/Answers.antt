use Rattle.std.proofs.Common.{rules, map as each, ap}
use Rattle.dc_preseed.proofs.SelectLemmas.{selected_as, handed_back}
use Rattle.dc_preseed.proofs.taking.take_selections.Goals as goal

pub returns : goal.returns
returns g c =
    let are = ap (each (λ b. (goal.Layer-dyn g (b.vtable, b.value)).state b.value)) c.into_layers-layers_left.ensures.layers in
    handed_back _ _ _ _ _ _ _ _ _ _
    (selected_as _ _ _ _ _ _ _ _ _ _ _ _ _ _ _ _ _ c.serve_selections-end.ensures.selected (search rules) (search rules) (search rules) (search rules) (search rules) (search rules) (search rules)) are (search rules) c.into_layers-layers_left.ensures.refused
