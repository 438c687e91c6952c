use Rattle.dc_preseed.proofs.selected.SelectedQuestions.keep.Goals as goal

pub returns-in-Err-clause-ok : goal.returns-in-Err-clause-ok
returns-in-Err-clause-ok g c = λ err. rw c.in-Err.is (c.refuse_by.ensures.ok err)
