use Rattle.std.proofs.Common.{ℕ, List, [], map as each, filter, is_some, refl, ap, sym, subst, ◌∙◌}
use Rattle.std.specs.List.{filter_map}
use Rattle.dc_text.specs.Maps.{AreDistinct}
use Rattle.dc_question.specs.Questions.{kind}
use Rattle.dc_session.specs.Answers.{gone}
use Rattle.dc_session.specs.Asking.{choice_for}
use Rattle.dc_session.specs.contracts.session.SessionLineMachine.TheImpl.{ghosts}
use Rattle.dc_session.proofs.AskingLemmas.{choices_distinct, skipped_comes, unset_comes}
use Rattle.dc_session.proofs.session.Session.skip_prepared.Goals as goal

pub set_all-requires-clause-names : goal.set_all-requires-clause-names
set_all-requires-clause-names g c =
    let layers = each (λ b. (goal.Layer-dyn g (b.vtable, b.value)).state b.value) c.args.self.now.desk.questions.store.now.layers.items in
    let at = c.args.self.now.desk.questions.context in
    let are = c.as_slice-3.ensures ∙ c.in_ok-choices.ensures ∙ ap (filter_map (choice_for layers at)) (c.as_slice-2.ensures ∙ c.in_ok-prepared.ensures.names) in
    subst (λ (cs : List (List ℕ × List ℕ)). AreDistinct (each (λ a. a.0) cs)) (sym are) (choices_distinct layers at c.args.self.now.asking.now.prepared c.in_ok-prepared.ensures.distinct)

pub returns-in-Ok-clause-comes : goal.returns-in-Ok-clause-comes
returns-in-Ok-clause-comes g c =
    let layers = each (λ b. (goal.Layer-dyn g (b.vtable, b.value)).state b.value) c.args.self.now.desk.questions.store.now.layers.items in
    let at = c.args.self.now.desk.questions.context in
    let are = c.as_slice-3.ensures ∙ c.in_ok-choices.ensures ∙ ap (filter_map (choice_for layers at)) (c.as_slice-2.ensures ∙ c.in_ok-prepared.ensures.names) in
    let askable = c.as_slice-in-Ok.ensures ∙ c.in_ok-askable.ensures ∙ ap (filter (λ name. is_some (kind layers at name))) (c.as_slice.ensures ∙ c.in_ok-prepared.ensures.names) in
    skipped_comes _ [] _ _ c.in-Ok.ensures.frame.context (rw are at c.in-Ok.ensures.does) _ (rw askable at c.in_ok-skip-in-Ok.ensures.ok) c.in_ok-told.told c.in_ok-told.ensures

pub returns-clause-comes : goal.returns-clause-comes
returns-clause-comes g c =
    let session = ghosts g.row.F g.row.T g.row.E g.F.Files g.F.Files-dict g.T.Link g.T.Link-dict g.E.Link g.E.Link-dict g.dyn-1 in
    let old = session.state c.args.self.now in
    let are = c.as_slice-3.ensures ∙ c.in_ok-choices.ensures ∙ ap (filter_map (choice_for old.store.layers old.at)) (c.as_slice-2.ensures ∙ c.in_ok-prepared.ensures.names) in
    unset_comes old _ _ (gone old) _ _ c.in-Err.ensures.frame.context (λ e. refl) c.in-Err.error (rw are at c.in-Err.ensures.does) (rw are at c.in-Err.ensures.frame.others) c.refused.result c.refused.ensures
