use Rattle.std.proofs.Common.{map as each}
use Rattle.dc_dump.proofs.SayLemmas.{AreRead}
use Rattle.dc_dump.proofs.saying.selections.Given as goal

abbrev pub invariant-loop-name : goal.invariant-loop-name
invariant-loop-name g l =
    let layers = each (λ b. (goal.Layer-dyn g (b.vtable, b.value)).state b.value) l.questions.store.now.layers.items in
    AreRead layers l.questions.context l.names l.name-index l.said
