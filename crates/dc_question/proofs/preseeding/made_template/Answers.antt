use Rattle.std.proofs.Common.{◌≡◌, IfOk, subst}
use Rattle.dc_question.proofs.PreseedLemmas.{typed_template}
use Rattle.dc_question.proofs.preseeding.made_template.Goals as goal

pub returns : goal.returns
returns c =
    subst (λ made. IfOk c.take.result (λ item. item ≡ made))
    (typed_template c.new-builder.result c.put_new_field.new.self c.put_owner.new.self c.args.kind c.args.name.now c.word.result.now c.bytes.result.now c.in_ok-put_new_field.field-0
    c.new-builder.ensures c.word.ensures c.bytes.ensures.value c.in_ok-put_new_field.ensures.new c.in_ok-put_new_field.ensures.put c.in_ok-put_owner.ensures.ok)
    c.take.ensures.taken
