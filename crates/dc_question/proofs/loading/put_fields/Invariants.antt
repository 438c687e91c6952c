use Rattle.std.proofs.Common.{◌≡◌, take}
use Rattle.dc_question.proofs.FieldLemmas.{of_fields}
use Rattle.dc_question.proofs.loading.put_fields.Given as goal

abbrev pub invariant-loop-field : goal.invariant-loop-field
invariant-loop-field l = l.builder ≡ of_fields (take l.field-index l.fields)
