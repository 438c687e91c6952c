use Rattle.std.proofs.Common.{[], ◌++◌, map as each, ap, ◌∙◌, arith}
use Rattle.std.specs.List.{cons_option}
use Rattle.dc_question.proofs.LeaveLemmas.{filter_map_more}
use Rattle.dc_session.specs.Asking.{choice_for}
use Rattle.dc_session.proofs.session.Session.choices_for.Goals as goal

pub loop-name-preserved : goal.loop-name-preserved
loop-name-preserved g c =
    let layers = each (λ b. (goal.Layer-dyn g (b.vtable, b.value)).state b.value) c.args.self.now.desk.questions.store.now.layers.items in
    c.in_ok-add_choice.ensures
    ∙ ap (λ l. l ++ cons_option (choice_for layers c.args.self.now.desk.questions.context c.name-item.result) []) c.loop-name.invariant
    ∙ filter_map_more (choice_for layers c.args.self.now.desk.questions.context) c.args.names.now c.loop-name.name-index c.name-item.result (omega arith) c.name-item.is
