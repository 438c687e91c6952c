use Rattle.std.proofs.Common.{◌≡◌, map as each, take}
use Rattle.dc_item.specs.Item.{no_parts}
use Rattle.dc_question.specs.Ownership.{load_batch}
use Rattle.dc_question.proofs.questions.Questions.load_batch.Given as goal

abbrev pub invariant-loop-template : goal.invariant-loop-template
invariant-loop-template g l =
    let layers = each (λ b. (goal.Layer-dyn g (b.vtable, b.value)).state b.value) l.self.store.now.layers.items in
    (l.batch ≡ load_batch layers l.self.context l.owner (take l.template-index l.list)) × (l.builder ≡ no_parts)
