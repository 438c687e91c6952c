use Rattle.std.proofs.Common.{sym, ap, ◌∙◌}
use Rattle.dc_template.specs.Kinds.{kind_of}
use Rattle.dc_template.proofs.StanzaLemmas.{kind_turn, kind_found, line_apart}
use Rattle.dc_template.proofs.reading.kind_in.Goals as goal

pub returns-in-Some : goal.returns-in-Some
returns-in-Some c =
    c.read.ensures ∙ ap kind_of c.bytes.ensures
    ∙ kind_found c.args.lines.now c.loop-rest.rest.now _ c.line-item.result c.in-Some.word.now (line_apart c.loop-rest.rest.now c.line-item.result c.in-len1-up.len_at_least c.line-item.is)
    (sym c.is_blank.ensures ∙ c.if-is_blank.false) c.in-Some.ensures c.loop-rest.invariant

pub loop-rest-preserved : goal.loop-rest-preserved
loop-rest-preserved c =
    kind_turn c.args.lines.now c.loop-rest.rest.now _ c.line-item.result (line_apart c.loop-rest.rest.now c.line-item.result c.in-len1-up.len_at_least c.line-item.is)
    (sym c.is_blank.ensures ∙ c.if-is_blank.false) c.in_default-type_set.ensures c.loop-rest.invariant
