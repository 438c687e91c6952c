use Rattle.dc_store.proofs.Walks.{plan_keeps}
use Rattle.dc_store.proofs.laws.other_names_stay.Goals as goal

pub returns : goal.returns
returns c = plan_keeps
