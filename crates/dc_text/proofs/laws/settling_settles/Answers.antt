use Rattle.dc_text.proofs.SettledLemmas.{is_settled-settled, settled-stays, settled-shown}
use Rattle.dc_text.proofs.laws.settling_settles.Goals as goal

pub returns-clause-settled : goal.returns-clause-settled
returns-clause-settled c = is_settled-settled

pub returns-clause-stays : goal.returns-clause-stays
returns-clause-stays c = settled-stays

pub returns-clause-shown : goal.returns-clause-shown
returns-clause-shown c = settled-shown
