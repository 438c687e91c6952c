use Rattle.std.proofs.Common.{◌≡◌, None, map as each, take}
use Rattle.std.specs.Prelude.{find}
use Rattle.dc_session.specs.Asking.{is_fixed}
use Rattle.dc_session.proofs.session.Session.first_fixed.Given as goal

abbrev pub invariant-loop-name : goal.invariant-loop-name
invariant-loop-name g l =
    let layers = each (λ b. (goal.Layer-dyn g (b.vtable, b.value)).state b.value) l.self.desk.questions.store.now.layers.items in
    find (is_fixed layers l.self.desk.questions.context) (take l.name-index l.names) ≡ None
