use Rattle.dc_dump.proofs.ReadLemmas.{not_joined}
use Rattle.dc_dump.proofs.laws.lines_are_not_joined.Goals as goal

pub returns : goal.returns
returns c = not_joined
