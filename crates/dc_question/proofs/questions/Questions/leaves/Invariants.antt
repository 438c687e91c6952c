use Rattle.std.proofs.Common.{◌≡◌, [], ◌∷◌, map as each, take}
use Rattle.dc_item.specs.declared.op.Op.TheVariants.{DropOwners}
use Rattle.dc_question.specs.KindsLeft.{write_by}
use Rattle.dc_question.proofs.questions.Questions.leaves.Given as goal

abbrev pub invariant-loop-name : goal.invariant-loop-name
invariant-loop-name g l =
    let layers = each (λ b. (goal.Layer-dyn g (b.vtable, b.value)).state b.value) l.self.store.now.layers.items in
    l.batch ≡ each (λ name. write_by layers l.self.context l.kinds name (DropOwners (l.owner ∷ []))) (take l.name-index l.names)
