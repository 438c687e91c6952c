use Rattle.std.proofs.Common.{[], ◌∷◌, ◌++◌, map as each, sym, ap, ◌∙◌}
use Rattle.dc_item.specs.declared.op.Op.TheVariants.{Put}
use Rattle.dc_store.specs.Plans.{look}
use Rattle.dc_question.specs.Ownership.{template_write, bind_batch, loaded_template}
use Rattle.dc_question.proofs.BindLemmas.{as_written, added_for}
use Rattle.dc_question.proofs.questions.Questions.add_load.Goals as goal

pub add_bound-requires-clause-first : goal.add_bound-requires-clause-first
add_bound-requires-clause-first g c =
    let layers = each (λ b. (goal.Layer-dyn g (b.vtable, b.value)).state b.value) c.args.self.now.store.now.layers.items in
    let t = c.args.template.now in
    let old = look layers c.args.self.now.context.templates t.name in
    as_written layers c.args.self.now.context t.name (Put (loaded_template t old)) (c.name.result.now ∷ []) c.in_ok-first.first
    (c.in_ok-first.ensures.write ∙ ap (λ n. template_write layers c.args.self.now.context t.name (Put (loaded_template t old)) (n ∷ [])) (sym c.name.ensures))

pub returns-clause-batch : goal.returns-clause-batch
returns-clause-batch g c =
    let layers = each (λ b. (goal.Layer-dyn g (b.vtable, b.value)).state b.value) c.args.self.now.store.now.layers.items in
    let t = c.args.template.now in
    let old = look layers c.args.self.now.context.templates t.name in
    added_for layers c.args.self.now.context t.name c.args.owner.now c.in_ok-first.first t.name (Put (loaded_template t old)) c.args.batch.now c.add_bound.new.batch c.in_ok-first.ensures.write
    (c.in_ok-add_bound.ensures.batch ∙ ap (λ n. c.args.batch.now ++ bind_batch layers c.args.self.now.context c.in_ok-first.first.name c.in_ok-first.first.op n c.args.owner.now) c.name.ensures)
