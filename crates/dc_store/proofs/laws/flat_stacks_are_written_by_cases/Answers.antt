use Rattle.dc_store.proofs.Flat.{flat}
use Rattle.dc_store.proofs.laws.flat_stacks_are_written_by_cases.Goals as goal

pub returns : goal.returns
returns c store plans name kind op f = flat store name kind plans op f
