use Rattle.std.proofs.Common.{◌≡◌, IfOk, subst}
use Rattle.dc_question.proofs.PreseedLemmas.{new_answered}
use Rattle.dc_question.proofs.preseeding.answered_new.Goals as goal

pub returns : goal.returns
returns c =
    subst (λ made. IfOk c.take.result (λ item. item ≡ made))
    (new_answered c.in_ok-builder.builder c.put_written_field.new.self c.put_owner.new.self c.put_seen.new.builder c.args.owner.now c.args.name.now c.args.value.now c.bytes.result.now
    c.args.unseen c.in_ok-put_written_field.field-0 c.in_ok-builder.ensures c.bytes.ensures.value c.in_ok-put_written_field.ensures.new c.in_ok-put_written_field.ensures.put
    c.in_ok-put_owner.ensures.ok c.in_ok-put_seen.ensures)
    c.take.ensures.taken
