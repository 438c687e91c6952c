use Rattle.dc_store.proofs.Seen.{seen}
use Rattle.dc_store.proofs.laws.writes_are_seen.Goals as goal

pub returns : goal.returns
returns c = seen
