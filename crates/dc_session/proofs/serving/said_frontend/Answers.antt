use Rattle.std.proofs.Common.{rules, map as each}
use Rattle.dc_session.proofs.ServeLemmas.{frontend_read}
use Rattle.dc_session.proofs.serving.said_frontend.Goals as goal

pub returns : goal.returns
returns g c =
    let layers = each (λ b. (goal.Layer-dyn g (b.vtable, b.value)).state b.value) c.args.questions.now.store.now.layers.items in
    frontend_read layers c.args.questions.now.context c.in-Ok.name (search rules) c.frontend_said.result (c.frontend_said.ensures _ c.value.ensures)
