use Rattle.dc_preseed.proofs.SelectingLaws.{says_nothing, says_no_code}
use Rattle.dc_preseed.proofs.laws.selections_say_nothing.Goals as goal

pub returns-clause-said : goal.returns-clause-said
returns-clause-said c = says_nothing

pub returns-clause-code : goal.returns-clause-code
returns-clause-code c = says_no_code
