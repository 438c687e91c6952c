use Rattle.std.proofs.Common.{◌≡◌, filter, is_some, map as each, take}
use Rattle.dc_question.specs.Questions.{kind}
use Rattle.dc_session.proofs.session.Session.askable.Given as goal

abbrev pub invariant-loop-name : goal.invariant-loop-name
invariant-loop-name g l =
    let layers = each (λ b. (goal.Layer-dyn g (b.vtable, b.value)).state b.value) l.self.desk.questions.store.now.layers.items in
    l.askable ≡ filter (λ n. is_some (kind layers l.self.desk.questions.context n)) (take l.name-index l.names)
