use Rattle.std.proofs.Common.{rules, map as each}
use Rattle.dc_session.proofs.ServeLemmas.{all_read}
use Rattle.dc_session.proofs.serving.said_threshold.Goals as goal

pub returns : goal.returns
returns g c =
    let layers = each (λ b. (goal.Layer-dyn g (b.vtable, b.value)).state b.value) c.args.questions.now.store.now.layers.items in
    all_read layers c.args.questions.now.context c.in-Ok.name (search rules) c.priority_said.result (c.priority_said.ensures _ c.value.ensures)
