use Rattle.dc_store.proofs.TellingLemmas.{told_alike}
use Rattle.dc_store.proofs.laws.telling_changes_nothing.Goals as goal

pub returns : goal.returns
returns c = told_alike
