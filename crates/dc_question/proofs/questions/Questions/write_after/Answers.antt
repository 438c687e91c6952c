use Rattle.std.proofs.Common.{◌≡◌, [], ◌∷◌, IfOk, length, map as each, ap, subst}
use Rattle.dc_question.proofs.BindLemmas.{written_over, after_write}
use Rattle.dc_question.proofs.questions.Questions.write_after.Goals as goal

pub kind_left_by-requires-clause-write : goal.kind_left_by-requires-clause-write
kind_left_by-requires-clause-write g c =
    let layers = each (λ b. (goal.Layer-dyn g (b.vtable, b.value)).state b.value) c.args.self.now.store.now.layers.items in
    written_over layers c.args.self.now.context (c.args.name.now ∷ []) c.args.first.now (length c.args.self.now.store.now.layers.items) c.requires.first c.requires.over

pub kind_left_by-requires-clause-tested : goal.kind_left_by-requires-clause-tested
kind_left_by-requires-clause-tested g c = ap (λ w. w.kind) c.requires.first

pub returns : goal.returns
returns g c =
    let layers = each (λ b. (goal.Layer-dyn g (b.vtable, b.value)).state b.value) c.args.self.now.store.now.layers.items in
    subst (λ x. IfOk c.write_beside.result (λ w. w ≡ x))
    (after_write layers c.args.self.now.context c.args.name.now c.args.first.now c.args.op c.in_ok-kinds.kinds c.in_ok-kinds.ensures)
    c.write_beside.ensures
