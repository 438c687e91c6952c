use Rattle.dc_store.proofs.One.{taken}
use Rattle.dc_store.proofs.laws.writes_change_one_layer.Goals as goal

pub returns : goal.returns
returns c = taken
