use Rattle.dc_store.proofs.Seen.{seen_still}
use Rattle.dc_store.proofs.laws.what_stays_is_seen.Goals as goal

pub returns : goal.returns
returns c = seen_still
