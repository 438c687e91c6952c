use Rattle.dc_preseed.proofs.PartLemmas.{parts_one, parts_some}
use Rattle.dc_preseed.proofs.laws.parts_are_words.Goals as goal

pub returns-clause-one : goal.returns-clause-one
returns-clause-one c = parts_one

pub returns-clause-some : goal.returns-clause-some
returns-clause-some c = parts_some
