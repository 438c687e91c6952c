use Rattle.std.proofs.Common.{map as each, arith}
use Rattle.dc_run.proofs.ShowLemmas.{owners_turn}
use Rattle.dc_run.proofs.showing.questions_text.Goals as goal

pub loop-owner-preserved : goal.loop-owner-preserved
loop-owner-preserved g c =
    let layers = each (λ b. (goal.Layer-dyn g (b.vtable, b.value)).state b.value) c.args.questions.now.store.now.layers.items in
    owners_turn layers c.args.questions.now.context c.args.owners.now c.as_slice-owner-items.result.now c.loop-owner.owner-index c.owner-item.result c.loop-owner.text c.append_owner.new.text
    c.as_slice-owner-items.ensures (omega arith) c.owner-item.is c.loop-owner.invariant c.in_ok-append_owner.ensures
