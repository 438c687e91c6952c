use Rattle.dc_store.proofs.Seen.{seen_below}
use Rattle.dc_store.proofs.laws.what_stood_below_is_seen.Goals as goal

pub returns : goal.returns
returns c = seen_below
