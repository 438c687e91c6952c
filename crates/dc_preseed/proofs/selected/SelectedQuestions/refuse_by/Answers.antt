use Rattle.dc_preseed.proofs.selected.SelectedQuestions.refuse_by.Goals as goal

pub returns-in-TooFew-clause-ok : goal.returns-in-TooFew-clause-ok
returns-in-TooFew-clause-ok g c = λ err. rw c.in-TooFew.is (c.refuse.ensures.ok err)

pub returns-in-BadName-clause-ok : goal.returns-in-BadName-clause-ok
returns-in-BadName-clause-ok g c = λ err. rw c.in-BadName.is (c.refuse-in-BadName.ensures.ok err)

pub returns-in-BadType-clause-ok : goal.returns-in-BadType-clause-ok
returns-in-BadType-clause-ok g c = λ err. rw c.in-BadType.is (c.refuse-in-BadType.ensures.ok err)

pub returns-in-BadFlagValue-clause-ok : goal.returns-in-BadFlagValue-clause-ok
returns-in-BadFlagValue-clause-ok g c = λ err. rw c.in-BadFlagValue.is (c.refuse-in-BadFlagValue.ensures.ok err)

pub returns-in-NoQuestion-clause-ok : goal.returns-in-NoQuestion-clause-ok
returns-in-NoQuestion-clause-ok g c = λ err. rw c.in-NoQuestion.is (c.refuse-in-NoQuestion.ensures.ok err)

pub returns-in-CantChange-clause-ok : goal.returns-in-CantChange-clause-ok
returns-in-CantChange-clause-ok g c = λ err. rw c.in-CantChange.is (c.refuse-in-CantChange.ensures.ok err)
