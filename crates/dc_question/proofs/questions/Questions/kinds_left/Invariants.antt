use Rattle.std.proofs.Common.{◌≡◌, map as each, drop}
use Rattle.std.specs.FinMap as map
use Rattle.dc_question.specs.KindsLeft.{with_kinds}
use Rattle.dc_question.proofs.questions.Questions.kinds_left.Given as goal

abbrev pub invariant-loop-write : goal.invariant-loop-write
invariant-loop-write g l =
    let layers = each (λ b. (goal.Layer-dyn g (b.vtable, b.value)).state b.value) l.self.store.now.layers.items in
    with_kinds layers l.self.context map.empty l.batch ≡ with_kinds layers l.self.context l.kinds (drop l.write-index l.batch)
