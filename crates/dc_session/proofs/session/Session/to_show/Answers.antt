use Rattle.std.proofs.Common.{ℕ, List, [], ◌++◌, Option, map as each, ap, ◌∙◌, arith}
use Rattle.std.specs.Prelude.{option_map}
use Rattle.std.specs.List.{cons_option}
use Rattle.dc_frontend.specs.declared.shown.Shown.{Shown}
use Rattle.dc_question.specs.Questions.{kind}
use Rattle.dc_question.proofs.LeaveLemmas.{filter_map_more}
use Rattle.dc_session.specs.Asking.{shown}
use Rattle.dc_session.proofs.session.Session.to_show.Goals as goal

pub loop-name-preserved : goal.loop-name-preserved
loop-name-preserved g c =
    let layers = each (λ b. (goal.Layer-dyn g (b.vtable, b.value)).state b.value) c.args.self.now.desk.questions.store.now.layers.items in
    let at = c.args.self.now.desk.questions.context in
    let pick : List ℕ → Option Shown = λ name. option_map (shown layers at name) (kind layers at name) in
    c.in_ok-add_question.ensures
    ∙ ap (λ l. l ++ cons_option (pick c.name-item.result) []) c.loop-name.invariant
    ∙ filter_map_more pick c.args.names.now c.loop-name.name-index c.name-item.result (omega arith) c.name-item.is
