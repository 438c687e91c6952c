use Rattle.dc_dump.proofs.ReadLemmas.{value_read, unseen_read}
use Rattle.dc_dump.proofs.laws.lines_are_read_again.Goals as goal

pub returns : goal.returns
returns c = record { value = value_read; unseen = unseen_read }
