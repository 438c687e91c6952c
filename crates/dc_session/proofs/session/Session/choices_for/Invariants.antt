use Rattle.std.proofs.Common.{◌≡◌, map as each, take}
use Rattle.std.specs.List.{filter_map}
use Rattle.dc_session.specs.Asking.{choice_for}
use Rattle.dc_session.proofs.session.Session.choices_for.Given as goal

abbrev pub invariant-loop-name : goal.invariant-loop-name
invariant-loop-name g l =
    let layers = each (λ b. (goal.Layer-dyn g (b.vtable, b.value)).state b.value) l.self.desk.questions.store.now.layers.items in
    l.choices ≡ filter_map (choice_for layers l.self.desk.questions.context) (take l.name-index l.names)
