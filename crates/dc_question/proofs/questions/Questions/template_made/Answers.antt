use Rattle.std.proofs.Common.{map as each, ◌∙◌}
use Rattle.dc_question.proofs.PreseedLemmas.{template_put}
use Rattle.dc_question.proofs.questions.Questions.template_made.Goals as goal

pub returns : goal.returns
returns g c =
    let layers = each (λ b. (goal.Layer-dyn g (b.vtable, b.value)).state b.value) c.args.self.now.store.now.layers.items in
    c.own_template_write.ensures ∙ template_put layers c.args.self.now.context c.args.name.now c.in_ok-copy.field-0 c.args.kind c.in_ok-item.item c.in_ok-copy.ensures c.in_ok-item.ensures
