use Rattle.dc_pass.proofs.AgainLemmas.{takes_one, takes_apart}
use Rattle.dc_pass.proofs.laws.lines_are_taken_in_one_way.Goals as goal

pub returns-clause-one : goal.returns-clause-one
returns-clause-one c = λ old new other line a b one two. takes_one old new other line a b one two

pub returns-clause-not_both : goal.returns-clause-not_both
returns-clause-not_both c = λ old new other line a one bad. takes_apart old new other line a one bad
