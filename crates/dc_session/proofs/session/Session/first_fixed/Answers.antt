use Rattle.std.proofs.Common.{map as each, sym, ◌∙◌, arith}
use Rattle.dc_session.specs.Asking.{is_fixed}
use Rattle.dc_session.proofs.GoLemmas.{not_found_more, found_here}
use Rattle.dc_session.proofs.session.Session.first_fixed.Goals as goal

pub returns-then-is : goal.returns-then-is
returns-then-is g c =
    let layers = each (λ b. (goal.Layer-dyn g (b.vtable, b.value)).state b.value) c.args.self.now.desk.questions.store.now.layers.items in
    let p = is_fixed layers c.args.self.now.desk.questions.context in
    sym (found_here p c.args.names.now c.loop-name.name-index c.name-item.result (omega arith) c.name-item.is c.loop-name.invariant (sym c.in_ok-is.ensures ∙ c.if-is.true))

pub loop-name-preserved : goal.loop-name-preserved
loop-name-preserved g c =
    let layers = each (λ b. (goal.Layer-dyn g (b.vtable, b.value)).state b.value) c.args.self.now.desk.questions.store.now.layers.items in
    let p = is_fixed layers c.args.self.now.desk.questions.context in
    not_found_more p c.args.names.now c.loop-name.name-index c.name-item.result (omega arith) c.name-item.is c.loop-name.invariant (sym c.in_ok-is.ensures ∙ c.if-is.false)
