use Rattle.std.proofs.Common.{map as each, arith}
use Rattle.dc_conf.specs.Trees.{shape}
use Rattle.dc_drill.specs.Report.{record_at}
use Rattle.dc_drill.proofs.ReportLemmas.{record_turn}
use Rattle.dc_drill.proofs.report.records_text.Goals as goal

pub loop-name-preserved : goal.loop-name-preserved
loop-name-preserved g c =
    let layers = each (λ b. (goal.Layer-dyn g (b.vtable, b.value)).state b.value) c.args.store.now.layers.items in
    record_turn (record_at layers (shape c.args.plan.now)) c.args.names.now c.loop-name.name-index c.name-item.result c.loop-name.text c.append_record.new.text
    (omega arith) c.name-item.is c.loop-name.invariant c.in_ok-append_record.ensures
