use Rattle.std.proofs.Common.{◌≡◌, [], ◌∷◌, IfOk, map as each, ap, subst, ◌∙◌}
use Rattle.dc_store.specs.Batches.{Write}
use Rattle.dc_question.specs.Ownership.{binding, write_beside}
use Rattle.dc_question.proofs.questions.Questions.bound_write.Goals as goal

pub returns-clause-write : goal.returns-clause-write
returns-clause-write g c =
    let layers = each (λ b. (goal.Layer-dyn g (b.vtable, b.value)).state b.value) c.args.self.now.store.now.layers.items in
    subst (λ op. IfOk c.write_after.result (λ w. w ≡ write_beside layers c.args.self.now.context (c.args.first.now ∷ []) c.args.name.now op))
    (c.in_ok-binding.ensures.op ∙ (λ i. binding (ap (λ (w : Write). w.name) c.first.view_is i) c.args.owner.now (c.question.ensures i)))
    c.write_after.ensures
