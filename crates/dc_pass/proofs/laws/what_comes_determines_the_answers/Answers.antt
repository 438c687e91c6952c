use Rattle.dc_pass.proofs.DeterminedLemmas.{same_answers, same_unreadable, not_answered_and_unreadable}
use Rattle.dc_pass.proofs.laws.what_comes_determines_the_answers.Goals as goal

pub returns-clause-answers : goal.returns-clause-answers
returns-clause-answers c =
    λ backup title shown before now number old new other last asked again alike first second. same_answers backup title shown before now number old new other last asked again alike first second

pub returns-clause-unreadable : goal.returns-clause-unreadable
returns-clause-unreadable c =
    λ backup title shown before now number line place old new other last alike first second. same_unreadable backup title shown before now number line place old new other last alike first second

pub returns-clause-not_both : goal.returns-clause-not_both
returns-clause-not_both c =
    λ backup title shown before now number line old new other last asked alike first second. not_answered_and_unreadable backup title shown before now number line old new other last asked alike first second
