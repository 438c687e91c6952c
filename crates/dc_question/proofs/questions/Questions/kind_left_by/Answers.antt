use Rattle.std.proofs.Common.{map as each, ap, ◌∙◌}
use Rattle.dc_store.specs.Batches.{Write}
use Rattle.dc_question.proofs.KindLemmas.{none_left, one_left}
use Rattle.dc_question.proofs.questions.Questions.kind_left_by.Goals as goal

pub returns-then-branch : goal.returns-then-branch
returns-then-branch g c =
    let layers = each (λ b. (goal.Layer-dyn g (b.vtable, b.value)).state b.value) c.args.self.now.store.now.layers.items in
    c.none.ensures ∙ none_left layers c.args.self.now.context c.args.write.now c.in_ok-refuses.field-0 c.in_ok-refuses.ensures c.if-branch.true

pub returns : goal.returns
returns g c =
    let layers = each (λ b. (goal.Layer-dyn g (b.vtable, b.value)).state b.value) c.args.self.now.store.now.layers.items in
    c.one.ensures ∙ one_left layers c.args.self.now.context c.args.write.now c.in_ok-refuses.field-0 c.in_ok-refuses.ensures c.write.inside.name c.in_ok-kind.kind
    (ap (λ (w : Write). w.name) c.write.view_is) c.if-branch.false c.in_ok-kind.ensures
