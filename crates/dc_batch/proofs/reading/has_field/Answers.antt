use Rattle.std.proofs.Common.{sym, ◌∙◌}
use Rattle.dc_batch.proofs.StanzaLemmas.{line_apart, field_turn}
use Rattle.dc_batch.proofs.reading.has_field.Goals as goal

pub loop-rest-preserved : goal.loop-rest-preserved
loop-rest-preserved c =
    field_turn c.args.field c.args.lines.now c.loop-rest.rest.now _ c.line-item.result (line_apart c.loop-rest.rest.now c.line-item.result c.in-len1-up.len_at_least c.line-item.is)
    (sym c.is_blank.ensures ∙ c.if-is_blank.false) (sym c.sets.ensures ∙ c.if-sets.false) c.loop-rest.invariant
