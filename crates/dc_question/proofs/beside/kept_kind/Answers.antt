use Rattle.std.proofs.Common.{◌∙◌, sym}
use Rattle.dc_question.specs.Readings.{kind_by}
use Rattle.dc_question.proofs.KindLemmas.{kind_reads, owners_kept}
use Rattle.dc_question.proofs.beside.kept_kind.Goals as goal

pub returns-then-is_on_owners : goal.returns-then-is_on_owners
returns-then-is_on_owners c = c.kind.ensures ∙ owners_kept kind_by kind_reads c.args.op.now _ (sym c.is_on_owners.ensures ∙ c.if-is_on_owners.true)
