use Rattle.std.proofs.Common.{sym, ◌∙◌}
use Rattle.dc_template.proofs.StanzaLemmas.{fields_turn, keys_turn, line_apart}
use Rattle.dc_template.proofs.reading.read_fields.Goals as goal

pub add_fields-requires : goal.add_fields-requires
add_fields-requires c =
    (keys_turn c.loop-rest.rest.now _ c.line-item.result (line_apart c.loop-rest.rest.now c.line-item.result c.in-len1-up.len_at_least c.line-item.is)
    (sym c.is_blank.ensures ∙ c.if-is_blank.false) c.loop-rest.invariant.keys).0

pub loop-rest-preserved : goal.loop-rest-preserved
loop-rest-preserved c =
    let apart = line_apart c.loop-rest.rest.now c.line-item.result c.in-len1-up.len_at_least c.line-item.is in
    let solid = sym c.is_blank.ensures ∙ c.if-is_blank.false in
    record {
      read = fields_turn c.loop-rest.fields.items c.add_fields.new.fields.items _ c.loop-rest.rest.now _ c.line-item.result apart solid c.in_ok-add_fields.ensures c.loop-rest.invariant.read;
      keys = (keys_turn c.loop-rest.rest.now _ c.line-item.result apart solid c.loop-rest.invariant.keys).1;
    }
