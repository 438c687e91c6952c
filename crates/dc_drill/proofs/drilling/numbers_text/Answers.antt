use Rattle.std.proofs.Common.{ap, ◌∙◌}
use Rattle.dc_conf.specs.Trees.{shape}
use Rattle.dc_drill.proofs.ReportLemmas.{report_as}
use Rattle.dc_drill.proofs.drilling.numbers_text.Goals as goal

pub returns-clause-text : goal.returns-clause-text
returns-clause-text g c =
    report_as (λ b. (goal.Layer-dyn g (b.vtable, b.value)).state b.value) _ _ c.report_text-text.result c.args.count _ _ (shape c.args.config.now) c.report_text-text.ensures c.as_slice.ensures
    (c.new-store.ensures.layers ∙ ap (λ v. v.items) c.replace.ensures.value)
