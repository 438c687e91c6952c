use Rattle.dc_store.proofs.Walks.{write_elsewhere}
use Rattle.dc_store.proofs.laws.other_layers_stay.Goals as goal

pub returns : goal.returns
returns c = write_elsewhere
