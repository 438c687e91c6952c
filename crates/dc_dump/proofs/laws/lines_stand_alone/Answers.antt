use Rattle.dc_dump.proofs.ReadLemmas.{stand_alone}
use Rattle.dc_dump.proofs.laws.lines_stand_alone.Goals as goal

pub returns : goal.returns
returns c = stand_alone
