use Rattle.dc_preseed.specs.Selecting.{selector_of}
use Rattle.dc_preseed.proofs.SelectLemmas.{taken_so, taken_lost}
use Rattle.dc_preseed.proofs.selected.SelectedQuestions.take_last.Goals as goal

pub returns-clause-ok : goal.returns-clause-ok
returns-clause-ok g c = λ err.
    let state = selector_of (λ b. (goal.Layer-dyn g (b.vtable, b.value)).state b.value) c.args.self.now err in
    taken_so c.take_joined.result state _ _ _ _ (λ i. record { joining = c.end-joined.ensures.none i; whole = c.end-joined.ensures.left i }) (c.take_joined.ensures.ok err)

pub returns-clause-err : goal.returns-clause-err
returns-clause-err g c = λ err.
    let state = selector_of (λ b. (goal.Layer-dyn g (b.vtable, b.value)).state b.value) c.args.self.now err in
    taken_lost c.take_joined.result state _ _ _ _ (λ i. record { joining = c.end-joined.ensures.none i; whole = c.end-joined.ensures.left i }) (c.take_joined.ensures.err err)
