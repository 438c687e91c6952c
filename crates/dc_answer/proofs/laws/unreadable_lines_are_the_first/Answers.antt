use Rattle.dc_answer.proofs.FirstLemmas.{not_both, none_before, number_after}
use Rattle.dc_answer.proofs.laws.unreadable_lines_are_the_first.Goals as goal

pub returns-clause-taken : goal.returns-clause-taken
returns-clause-taken c = not_both

pub returns-clause-before : goal.returns-clause-before
returns-clause-before c = none_before

pub returns-clause-number : goal.returns-clause-number
returns-clause-number c = number_after
