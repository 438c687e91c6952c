use Rattle.dc_save.proofs.DiskState.{chain}
use Rattle.dc_save.proofs.laws.saves_chain.Goals as goal

pub returns : goal.returns
returns c = chain
