use Rattle.std.proofs.Common.{sym, ◌∙◌}
use Rattle.dc_template.proofs.StanzaLemmas.{type_turn, line_apart}
use Rattle.dc_template.proofs.checking.has_type.Goals as goal

pub loop-rest-preserved : goal.loop-rest-preserved
loop-rest-preserved c =
    type_turn c.args.after.now c.loop-rest.rest.now _ c.line-item.result (line_apart c.loop-rest.rest.now c.line-item.result c.in-len1-up.len_at_least c.line-item.is)
    (sym c.is_blank.ensures ∙ c.if-is_blank.false) (sym c.sets_type.ensures ∙ c.if-sets_type.false) c.loop-rest.invariant
