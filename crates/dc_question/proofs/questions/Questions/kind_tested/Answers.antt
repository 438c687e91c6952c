use Rattle.std.proofs.Common.{map as each, ◌∙◌}
use Rattle.dc_question.specs.Readings.{kind_by}
use Rattle.dc_store.specs.Plans.{look}
use Rattle.dc_question.proofs.KindLemmas.{kind_reads, put_kept}
use Rattle.dc_question.proofs.questions.Questions.kind_tested.Goals as goal

pub returns-in-Put : goal.returns-in-Put
returns-in-Put g c =
    let layers = each (λ b. (goal.Layer-dyn g (b.vtable, b.value)).state b.value) c.args.self.now.store.now.layers.items in
    c.kind.ensures ∙ put_kept kind_by kind_reads c.args.op.now c.in-Put.made (look layers c.args.self.now.context.templates c.args.name.now) c.in-Put.is
