use Rattle.dc_run.proofs.RoundLemmas.{broken_last}
use Rattle.dc_run.proofs.laws.a_broken_round_is_the_last.Goals as goal

pub returns : goal.returns
returns c roots settings old before round later = broken_last roots settings round later old before
