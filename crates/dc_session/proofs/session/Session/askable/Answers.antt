use Rattle.std.proofs.Common.{[], ◌∷◌, ◌++◌, filter, is_some, map as each, ap, ◌∙◌, arith}
use Rattle.dc_question.specs.Questions.{kind}
use Rattle.dc_session.proofs.AskingLemmas.{filter_more}
use Rattle.dc_session.proofs.session.Session.askable.Goals as goal

pub loop-name-preserved : goal.loop-name-preserved
loop-name-preserved g c =
    let layers = each (λ b. (goal.Layer-dyn g (b.vtable, b.value)).state b.value) c.args.self.now.desk.questions.store.now.layers.items in
    c.in_ok-add_askable.ensures
    ∙ ap (λ l. l ++ filter (λ n. is_some (kind layers c.args.self.now.desk.questions.context n)) (c.name-item.result ∷ [])) c.loop-name.invariant
    ∙ filter_more (λ n. is_some (kind layers c.args.self.now.desk.questions.context n)) c.args.names.now c.loop-name.name-index c.name-item.result (omega arith) c.name-item.is
