use Rattle.std.proofs.Common.{Ok, Some, map as each, subst}
use Rattle.std.proofs.lemmas.Result.{err_from_is_err_and}
use Rattle.dc_store.specs.Plans.{StoreState, stored}
use Rattle.dc_question.proofs.FrameLemmas.{same_asked}
use Rattle.dc_preseed.specs.Lines.{Sets}
use Rattle.dc_preseed.specs.Selections.{IsAnswer}
use Rattle.dc_preseed.proofs.LineLemmas.{unread_sets, read_sets, question_framed}
use Rattle.dc_preseed.proofs.lines.set_line.Goals as goal

pub returns-in_err-read_selection-clause-does : goal.returns-in_err-read_selection-clause-does
returns-in_err-read_selection-clause-does g c =
    let old : StoreState = stored (each (λ b. (goal.Layer-dyn g (b.vtable, b.value)).state b.value) c.args.questions.now.store.now.layers.items) c.args.questions.now.store.now.told in
    let p = err_from_is_err_and c.from_residual.result c.from_residual.ensures.1 in
    rw p.1 (unread_sets old c.args.questions.now.context c.args.check c.args.unseen c.args.line.now c.in_err-read_selection.field-0.0 p.0 p.2 c.in_err-read_selection.ensures)

pub returns-in_err-read_selection-clause-frame : goal.returns-in_err-read_selection-clause-frame
returns-in_err-read_selection-clause-frame g c = same_asked _ _

pub returns-in-None-clause-frame : goal.returns-in-None-clause-frame
returns-in-None-clause-frame g c = same_asked _ _

pub returns-in-Some-clause-does : goal.returns-in-Some-clause-does
returns-in-Some-clause-does g c =
    let old : StoreState = stored (each (λ b. (goal.Layer-dyn g (b.vtable, b.value)).state b.value) c.args.questions.now.store.now.layers.items) c.args.questions.now.store.now.told in
    let new : StoreState = stored (each (λ b. (goal.Layer-dyn g (b.vtable, b.value)).state b.value) c.set_selection.new.questions.store.now.layers.items) c.set_selection.new.questions.store.now.told in
    let is = subst (λ s. IsAnswer c.args.line.now (Ok s)) c.in-Some.is c.in_ok-read_selection.ensures in
    subst (λ o. Sets c.set_selection.result o old new)
    (read_sets old c.args.questions.now.context c.args.check c.args.unseen c.args.line.now (Some c.in-Some.selection) is) c.set_selection.ensures.does

pub returns-in-Some-clause-frame : goal.returns-in-Some-clause-frame
returns-in-Some-clause-frame g c =
    let is = subst (λ s. IsAnswer c.args.line.now (Ok s)) c.in-Some.is c.in_ok-read_selection.ensures in
    question_framed c.args.line.now c.in-Some.selection _ _ is c.set_selection.ensures.frame
