use Rattle.std.proofs.Common.{map as each, arith}
use Rattle.dc_tools.proofs.ShowLemmas.{show_turn}
use Rattle.dc_tools.proofs.showing.show_text.Goals as goal

pub loop-name-preserved : goal.loop-name-preserved
loop-name-preserved g c =
    let layers = each (λ b. (goal.Layer-dyn g (b.vtable, b.value)).state b.value) c.args.questions.now.store.now.layers.items in
    show_turn layers c.args.questions.now.context c.args.owned.now c.as_slice-name-items.result.now c.loop-name.name-index c.name-item.result c.loop-name.text c.append_question.new.text
    c.as_slice-name-items.ensures (omega arith) c.name-item.is c.loop-name.invariant c.in_ok-append_question.ensures
