use Rattle.dc_store.proofs.TestLemmas.{same_taken}
use Rattle.dc_store.proofs.laws.what_stays_is_taken.Goals as goal

pub returns : goal.returns
returns c = same_taken
