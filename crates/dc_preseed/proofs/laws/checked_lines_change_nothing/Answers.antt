use Rattle.dc_preseed.proofs.LineLemmas.{checked_same, done_checked}
use Rattle.dc_preseed.proofs.laws.checked_lines_change_nothing.Goals as goal

pub returns-clause-same : goal.returns-clause-same
returns-clause-same c = λ store new at line unseen done. checked_same store new at unseen done line

pub returns-clause-answered : goal.returns-clause-answered
returns-clause-answered c = λ store new at line unseen done. done_checked store new at unseen done line
