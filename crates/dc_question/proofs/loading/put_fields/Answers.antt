use Rattle.std.proofs.Common.{arith}
use Rattle.dc_question.proofs.FieldLemmas.{field_more}
use Rattle.dc_question.proofs.loading.put_fields.Goals as goal

pub loop-field-preserved : goal.loop-field-preserved
loop-field-preserved c =
    field_more c.loop-field.builder c.put_written_field.new.self c.args.fields.now c.loop-field.field-index c.field-item.result c.bytes.result.now c.bytes-in-loop-field.result.now c.in_ok-put_written_field.field-0
    c.loop-field.invariant (omega arith) c.field-item.is c.bytes.ensures.value c.bytes-in-loop-field.ensures c.in_ok-put_written_field.ensures.new c.in_ok-put_written_field.ensures.put
