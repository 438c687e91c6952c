use Rattle.std.proofs.Common.{[], ◌∷◌, ◌++◌, map as each, ap, ◌∙◌}
use Rattle.dc_question.specs.Ownership.{template_write, bind_batch}
use Rattle.dc_question.proofs.BindLemmas.{as_written, added_for}
use Rattle.dc_question.proofs.questions.Questions.bind_batch.Goals as goal

pub add_bound-requires-clause-first : goal.add_bound-requires-clause-first
add_bound-requires-clause-first g c =
    let layers = each (λ b. (goal.Layer-dyn g (b.vtable, b.value)).state b.value) c.args.self.now.store.now.layers.items in
    as_written layers c.args.self.now.context c.args.template.now c.args.op (c.args.name.now ∷ []) c.in_ok-first.first
    (c.in_ok-first.ensures ∙ (λ i. template_write layers c.args.self.now.context (c.in_ok-copy.ensures i) c.args.op (c.in_ok-only.ensures i)))

pub returns : goal.returns
returns g c =
    let layers = each (λ b. (goal.Layer-dyn g (b.vtable, b.value)).state b.value) c.args.self.now.store.now.layers.items in
    added_for layers c.args.self.now.context c.args.name.now c.args.owner.now c.in_ok-first.first c.args.template.now c.args.op [] c.add_bound.new.batch
    (c.in_ok-first.ensures ∙ (λ i. template_write layers c.args.self.now.context (c.in_ok-copy.ensures i) c.args.op (c.in_ok-only.ensures i)))
    (c.in_ok-add_bound.ensures.batch ∙ ap (λ l. l ++ bind_batch layers c.args.self.now.context c.in_ok-first.first.name c.in_ok-first.first.op c.args.name.now c.args.owner.now) c.new-batch.ensures)
