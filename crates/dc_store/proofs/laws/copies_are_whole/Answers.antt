use Rattle.dc_store.proofs.SeenLemmas.{copied}
use Rattle.dc_store.proofs.laws.copies_are_whole.Goals as goal

pub returns : goal.returns
returns c = copied
