use Rattle.std.proofs.Common.{◌≡◌, IfOk, Some, ap, subst, ◌∙◌}
use Rattle.std.specs.Option.{option_copied}
use Rattle.dc_question.specs.Readings.{kind_by}
use Rattle.dc_question.proofs.FieldLemmas.{loaded_kind, kind_made}
use Rattle.dc_question.proofs.LoadLemmas.{load_made}
use Rattle.dc_question.proofs.loading.loaded_item.Goals as goal

pub returns-clause-item : goal.returns-clause-item
returns-clause-item c =
    subst (λ made. IfOk c.take.result (λ item. item ≡ made))
    (load_made c.args.template.now (option_copied c.args.old) c.put_fields.new.builder c.keep_owners.new.builder c.put_owner.new.self c.fields.result.now c.bytes.result.now
    c.fields.ensures.value (c.bytes.ensures.value ∙ c.name.ensures) c.in_ok-put_fields.ensures c.in_ok-keep_owners.ensures c.in_ok-put_owner.ensures.ok)
    c.take.ensures.taken

pub returns-clause-kind : goal.returns-clause-kind
returns-clause-kind c =
    kind_made c.take.result c.put_owner.new.self (Some c.args.template.now.kind) c.take.ensures.taken
    (ap (λ i. kind_by (Some i))
    (load_made c.args.template.now (option_copied c.args.old) c.put_fields.new.builder c.keep_owners.new.builder c.put_owner.new.self c.fields.result.now c.bytes.result.now
    c.fields.ensures.value (c.bytes.ensures.value ∙ c.name.ensures) c.in_ok-put_fields.ensures c.in_ok-keep_owners.ensures c.in_ok-put_owner.ensures.ok)
    ∙ loaded_kind c.args.template.now (option_copied c.args.old) c.fields.ensures.template)
