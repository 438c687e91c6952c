use Rattle.dc_preseed.proofs.selected.SelectedQuestions.take_joined.Goals as goal

pub returns-in-Some-clause-ok : goal.returns-in-Some-clause-ok
returns-in-Some-clause-ok g c = λ err. rw c.in-Some.is (c.do_joined.ensures.ok err)

pub returns-in-Some-clause-err : goal.returns-in-Some-clause-err
returns-in-Some-clause-err g c = λ err. rw c.in-Some.is (c.do_joined.ensures.err err)
