use Rattle.std.proofs.Common.{◌≡◌, map as each, take}
use Rattle.std.specs.List.{flat_map}
use Rattle.dc_text.specs.Lines.{text_of}
use Rattle.dc_conf.specs.Trees.{shape}
use Rattle.dc_drill.specs.Report.{record_at}
use Rattle.dc_drill.proofs.report.records_text.Given as goal

abbrev pub invariant-loop-name : goal.invariant-loop-name
invariant-loop-name g l =
    let layers = each (λ b. (goal.Layer-dyn g (b.vtable, b.value)).state b.value) l.store.layers.items in
    l.text ≡ text_of (flat_map (record_at layers (shape l.plan)) (take l.name-index l.names))
