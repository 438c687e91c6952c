use Rattle.dc_store.proofs.TestLemmas.{taken_is}
use Rattle.dc_store.proofs.laws.tests_are_true.Goals as goal

pub returns : goal.returns
returns c = taken_is
