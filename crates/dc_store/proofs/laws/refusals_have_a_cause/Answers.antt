use Rattle.dc_store.proofs.LawLemmas.{refusal_cause}
use Rattle.dc_store.proofs.laws.refusals_have_a_cause.Goals as goal

pub returns : goal.returns
returns c = refusal_cause
