use Rattle.std.proofs.Common.{◌≡◌, ◌++◌, map as each, take}
use Rattle.dc_question.specs.Losses.{losses_of}
use Rattle.dc_question.proofs.questions.Questions.add_losses.Given as goal

abbrev pub invariant-loop-group : goal.invariant-loop-group
invariant-loop-group g l =
    l.batch ≡ l.fn.batch ++ losses_of (each (λ b. (goal.Layer-dyn g (b.vtable, b.value)).state b.value) l.self.store.now.layers.items) l.self.context (take l.group-index l.groups)
