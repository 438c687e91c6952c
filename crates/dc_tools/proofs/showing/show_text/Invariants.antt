use Rattle.std.proofs.Common.{◌≡◌, map as each, take}
use Rattle.dc_tools.specs.Showing.{show_text_of}
use Rattle.dc_tools.proofs.showing.show_text.Given as goal

abbrev pub invariant-loop-name : goal.invariant-loop-name
invariant-loop-name g l =
    l.text ≡ show_text_of (each (λ b. (goal.Layer-dyn g (b.vtable, b.value)).state b.value) l.questions.store.now.layers.items) l.questions.context (take l.name-index l.owned)
