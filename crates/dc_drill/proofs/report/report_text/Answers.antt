use Rattle.std.proofs.Common.{ℕ, map as each, length, ap, ◌∙◌}
use Rattle.std.specs.Prelude.{codes, count_by}
use Rattle.dc_store.specs.Plans.{names}
use Rattle.dc_conf.specs.Trees.{shape}
use Rattle.dc_drill.specs.Commands.{drill_lines}
use Rattle.dc_drill.specs.Replies.{sends_ok, sends_refusal}
use Rattle.dc_drill.specs.Report.{number_line, records_text}
use Rattle.dc_drill.proofs.ReportLemmas.{five_put, line_as}
use Rattle.dc_drill.proofs.report.report_text.Goals as goal

pub returns : goal.returns
returns g c =
    let layers = each (λ b. (goal.Layer-dyn g (b.vtable, b.value)).state b.value) c.args.store.now.layers.items in
    let listed = names layers (shape c.args.plan.now) in
    let commands : ℕ = length (drill_lines c.args.count) in
    let ok : ℕ = count_by sends_ok c.args.talk.now in
    let refused : ℕ = count_by sends_refusal c.args.talk.now in
    let questions : ℕ = length listed in
    let bytes : ℕ = length (records_text layers (shape c.args.plan.now) listed) in
    five_put (number_line (codes "commands") commands) (number_line (codes "ok") ok) (number_line (codes "refused") refused) (number_line (codes "questions") questions) (number_line (codes "bytes") bytes)
    _ _ _ _ _ _ c.new-text.ensures
    (line_as (codes "commands") _ commands _ _ c.in_ok-append_line.ensures c.command_count.ensures)
    (line_as (codes "ok") _ ok _ _ c.in_ok-append_line-2.ensures c.count_ok.ensures)
    (line_as (codes "refused") _ refused _ _ c.in_ok-append_line-3.ensures c.count_refusals.ensures)
    (line_as (codes "questions") _ questions _ _ c.in_ok-append_line-4.ensures (c.len.ensures ∙ ap length c.in_ok-names.ensures))
    (line_as (codes "bytes") _ bytes _ _ c.in_ok-append_line-5.ensures
    (ap length (c.bytes.ensures ∙ c.in_ok-records.ensures ∙ ap (records_text layers (shape c.args.plan.now)) (c.as_slice.ensures ∙ c.in_ok-names.ensures))))
