use Rattle.std.proofs.Common.{◌≡◌, true, map as each, ◌∙◌}
use Rattle.dc_question.specs.KindsLeft.{is_on_owners}
use Rattle.dc_question.specs.Readings.{kind_by}
use Rattle.dc_question.proofs.KindLemmas.{kind_reads, put_seen, owners_seen}
use Rattle.dc_question.proofs.questions.Questions.kind_left.Goals as goal

pub returns-in-Put : goal.returns-in-Put
returns-in-Put g c =
    let layers = each (λ b. (goal.Layer-dyn g (b.vtable, b.value)).state b.value) c.args.self.now.store.now.layers.items in
    c.kind.ensures ∙ put_seen kind_by kind_reads layers c.args.self.now.context.templates c.args.name.now c.args.op.now c.in-Put.made c.in-Put.is

pub returns : goal.returns
returns g c =
    let layers = each (λ b. (goal.Layer-dyn g (b.vtable, b.value)).state b.value) c.args.self.now.store.now.layers.items in
    let owners : is_on_owners c.args.op.now ≡ true = cc in
    c.kind-2.ensures
    ∙ owners_seen kind_by kind_reads layers c.args.self.now.context.templates c.args.name.now c.args.op.now _ c.in_ok-goes.field-0 c.template_seen-item.ensures owners c.in_ok-goes.ensures c.if-branch.false
