use Rattle.dc_question.proofs.PreseedLemmas.{bare_question}
use Rattle.dc_question.proofs.preseeding.bare_question.Goals as goal

pub returns : goal.returns
returns c =
    bare_question c.new-builder.result c.put_written_field.new.self c.args.name.now c.bytes.result.now c.in_ok-put_written_field.field-0
    c.new-builder.ensures c.bytes.ensures.value c.in_ok-put_written_field.ensures.new c.in_ok-put_written_field.ensures.put
