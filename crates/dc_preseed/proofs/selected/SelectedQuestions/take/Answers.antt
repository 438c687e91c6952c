use Rattle.dc_words.proofs.StreamLemmas.{on_err}
use Rattle.dc_preseed.specs.Selecting.{selector_of}
use Rattle.dc_preseed.proofs.SelectLemmas.{lost_none, taken_so, taken_lost}
use Rattle.dc_preseed.proofs.selected.SelectedQuestions.take.Goals as goal

pub returns-in_err-joined-clause-err : goal.returns-in_err-joined-clause-err
returns-in_err-joined-clause-err g c = λ err.
    let state = selector_of (λ b. (goal.Layer-dyn g (b.vtable, b.value)).state b.value) c.args.self.now err in
    on_err _ _ (lost_none state _ _)

pub returns-clause-ok : goal.returns-clause-ok
returns-clause-ok g c = λ err.
    let state = selector_of (λ b. (goal.Layer-dyn g (b.vtable, b.value)).state b.value) c.args.self.now err in
    taken_so c.take_joined.result state _ _ _ _ c.in_ok-joined.ensures.ok (c.take_joined.ensures.ok err)

pub returns-clause-err : goal.returns-clause-err
returns-clause-err g c = λ err.
    let state = selector_of (λ b. (goal.Layer-dyn g (b.vtable, b.value)).state b.value) c.args.self.now err in
    taken_lost c.take_joined.result state _ _ _ _ c.in_ok-joined.ensures.ok (c.take_joined.ensures.err err)
