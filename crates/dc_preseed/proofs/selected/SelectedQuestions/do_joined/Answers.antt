use Rattle.dc_preseed.specs.Selecting.{selector_of}
use Rattle.dc_preseed.proofs.SelectLemmas.{same_lost}
use Rattle.dc_preseed.proofs.selected.SelectedQuestions.do_joined.Goals as goal

pub returns-in-TooLong-clause-ok : goal.returns-in-TooLong-clause-ok
returns-in-TooLong-clause-ok g c = λ err. rw c.in-TooLong.is (c.refuse.ensures.ok err)

pub returns-in-TooLong-clause-err : goal.returns-in-TooLong-clause-err
returns-in-TooLong-clause-err g c = λ err.
    let state = selector_of (λ b. (goal.Layer-dyn g (b.vtable, b.value)).state b.value) c.args.self.now err in
    same_lost c.refuse.result state _ _ (c.refuse.ensures.err err)

pub returns-in-Whole-clause-ok : goal.returns-in-Whole-clause-ok
returns-in-Whole-clause-ok g c = λ err. rw c.in-Whole.is (c.do_line.ensures.ok err)

pub returns-in-Whole-clause-err : goal.returns-in-Whole-clause-err
returns-in-Whole-clause-err g c = λ err. rw (← c.in-Whole.is) at (c.do_line.ensures.err err)
