use Rattle.dc_session.proofs.SaveLemmas.{saves_asked, saves_alone}
use Rattle.dc_session.proofs.laws.saves_are_asked_for_by_one_command.Goals as goal

pub returns-clause-asked : goal.returns-clause-asked
returns-clause-asked c old new line stepped = saves_asked old new stepped line

pub returns-clause-alone : goal.returns-clause-alone
returns-clause-alone c old new line = saves_alone old new line
