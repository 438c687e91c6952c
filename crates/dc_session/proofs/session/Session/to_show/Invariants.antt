use Rattle.std.proofs.Common.{◌≡◌, map as each, take}
use Rattle.std.specs.Prelude.{option_map}
use Rattle.std.specs.List.{filter_map}
use Rattle.dc_question.specs.Questions.{kind}
use Rattle.dc_session.specs.Asking.{shown}
use Rattle.dc_session.proofs.session.Session.to_show.Given as goal

abbrev pub invariant-loop-name : goal.invariant-loop-name
invariant-loop-name g l =
    let layers = each (λ b. (goal.Layer-dyn g (b.vtable, b.value)).state b.value) l.self.desk.questions.store.now.layers.items in
    let at = l.self.desk.questions.context in
    l.questions ≡ filter_map (λ name. option_map (shown layers at name) (kind layers at name)) (take l.name-index l.names)
