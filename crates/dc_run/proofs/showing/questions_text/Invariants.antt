use Rattle.std.proofs.Common.{◌≡◌, map as each, take}
use Rattle.dc_run.specs.Inside.{owners_texts}
use Rattle.dc_run.proofs.showing.questions_text.Given as goal

abbrev pub invariant-loop-owner : goal.invariant-loop-owner
invariant-loop-owner g l =
    l.text ≡ owners_texts (each (λ b. (goal.Layer-dyn g (b.vtable, b.value)).state b.value) l.questions.store.now.layers.items) l.questions.context (take l.owner-index l.owners)
