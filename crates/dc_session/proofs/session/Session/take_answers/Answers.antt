use Rattle.std.proofs.Common.{ℕ, List, [], map as each, sym, subst, ◌∙◌}
use Rattle.dc_text.specs.Maps.{AreDistinct}
use Rattle.dc_session.specs.Asking.{values_given}
use Rattle.dc_session.proofs.GoLemmas.{given_distinct, taken_comes, untaken_comes}
use Rattle.dc_session.proofs.session.Session.take_answers.Goals as goal

pub set_all-requires-clause-names : goal.set_all-requires-clause-names
set_all-requires-clause-names g c =
    let are = c.as_slice-3.ensures ∙ c.in_ok-values.ensures ∙ (λ i. values_given (c.as_slice.ensures i) (c.as_slice-2.ensures i)) in
    subst (λ (vs : List (List ℕ × List ℕ)). AreDistinct (each (λ a. a.0) vs)) (sym are) (given_distinct c.args.questions.now c.args.answers.now c.requires.distinct)

pub returns-in-Ok-clause-comes : goal.returns-in-Ok-clause-comes
returns-in-Ok-clause-comes g c =
    let are = c.as_slice-3.ensures ∙ c.in_ok-values.ensures ∙ (λ i. values_given (c.as_slice.ensures i) (c.as_slice-2.ensures i)) in
    taken_comes _ c.args.questions.now c.args.answers.now c.requires.shown [] _ _ c.in-Ok.ensures.frame.context (rw are at c.in-Ok.ensures.does) _ (rw c.as_slice-in-Ok.ensures at c.in_ok-note_shown-in-Ok.ensures.ok)
    c.in_ok-told.told c.in_ok-told.ensures

pub returns-clause-comes : goal.returns-clause-comes
returns-clause-comes g c =
    let are = c.as_slice-3.ensures ∙ c.in_ok-values.ensures ∙ (λ i. values_given (c.as_slice.ensures i) (c.as_slice-2.ensures i)) in
    untaken_comes _ c.args.questions.now c.args.answers.now c.requires.shown _ _ _ c.in-Err.ensures.frame.context c.in-Err.error (rw are at c.in-Err.ensures.does) (rw are at c.in-Err.ensures.frame.others) c.refused.result c.refused.ensures
