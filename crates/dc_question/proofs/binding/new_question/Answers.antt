use Rattle.std.proofs.Common.{◌≡◌, IfOk, subst}
use Rattle.dc_question.proofs.FieldLemmas.{question_made}
use Rattle.dc_question.proofs.binding.new_question.Goals as goal

pub returns-clause-item : goal.returns-clause-item
returns-clause-item c =
    subst (λ made. IfOk c.take.result (λ item. item ≡ made))
    (question_made c.args.builder.now c.put_written_field.new.self c.put_owner.new.self c.args.template.now c.args.owner.now c.bytes.result.now c.bytes-2.result.now c.in_ok-put_written_field.field-0
    c.requires c.bytes.ensures.value c.bytes-2.ensures.value c.in_ok-put_written_field.ensures.new c.in_ok-put_written_field.ensures.put c.in_ok-put_owner.ensures.ok)
    c.take.ensures.taken
