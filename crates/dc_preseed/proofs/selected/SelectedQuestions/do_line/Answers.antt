use Rattle.std.proofs.Common.{ap}
use Rattle.dc_question.specs.Asked.{QuestionsState}
use Rattle.dc_preseed.specs.Selecting.{selector_of}
use Rattle.dc_preseed.proofs.SelectLemmas.{line_so, line_lost}
use Rattle.dc_preseed.proofs.selected.SelectedQuestions.do_line.Goals as goal

pub returns-clause-ok : goal.returns-clause-ok
returns-clause-ok g c = λ err.
    let state = selector_of (λ b. (goal.Layer-dyn g (b.vtable, b.value)).state b.value) c.args.self.now err in
    line_so c.keep.result state _ c.args.number c.args.line.now c.set_line-outcome.result _ _ (rw c.bytes.ensures at c.set_line-outcome.ensures.does) c.set_line-outcome.ensures.frame.context (c.keep.ensures.ok err)

pub returns-clause-err : goal.returns-clause-err
returns-clause-err g c = λ err.
    let state = selector_of (λ b. (goal.Layer-dyn g (b.vtable, b.value)).state b.value) c.args.self.now err in
    line_lost c.keep.result state _ c.args.number c.args.line.now _ _ (rw c.bytes.ensures at c.set_line-outcome.ensures.frame.others) c.set_line-outcome.ensures.frame.context
    (λ check. ap (λ (q : QuestionsState). q.store) (c.set_line-outcome.ensures.checked check)) (c.keep.ensures.err err)
