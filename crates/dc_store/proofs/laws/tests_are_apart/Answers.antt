use Rattle.dc_store.proofs.TestLemmas.{tests_apart}
use Rattle.dc_store.proofs.laws.tests_are_apart.Goals as goal

pub returns : goal.returns
returns c = tests_apart
