use Rattle.std.proofs.Common.{map as each, ◌∙◌}
use Rattle.dc_question.specs.KindsLeft.{item_kind}
use Rattle.dc_question.proofs.KindLemmas.{gone_seen}
use Rattle.dc_question.proofs.questions.Questions.item_kind_made.Goals as goal

pub returns-in-Gone : goal.returns-in-Gone
returns-in-Gone g c =
    let layers = each (λ b. (goal.Layer-dyn g (b.vtable, b.value)).state b.value) c.args.self.now.store.now.layers.items in
    c.item_kind-in-Gone.ensures
    ∙ gone_seen layers c.args.self.now.context.config c.args.name.now c.args.op.now (item_kind layers c.args.self.now.context c.args.kinds.now) _ _ c.in_ok-at.field-0 c.question-item.ensures c.question_below.ensures c.in_ok-at.ensures c.in-Gone.is
