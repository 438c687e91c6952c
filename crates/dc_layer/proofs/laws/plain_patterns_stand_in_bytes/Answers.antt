use Rattle.dc_layer.proofs.PartLemmas.{parted, found}
use Rattle.dc_layer.proofs.laws.plain_patterns_stand_in_bytes.Goals as goal

pub returns-clause-parted : goal.returns-clause-parted
returns-clause-parted c = parted

pub returns-clause-found : goal.returns-clause-found
returns-clause-found c = found
