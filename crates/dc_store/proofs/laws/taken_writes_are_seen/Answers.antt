use Rattle.dc_store.proofs.Seen.{taken_seen}
use Rattle.dc_store.proofs.laws.taken_writes_are_seen.Goals as goal

pub returns : goal.returns
returns c = taken_seen
