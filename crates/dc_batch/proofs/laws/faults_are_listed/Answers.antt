use Rattle.dc_batch.proofs.ListedFaults.{none_listed, first_listed}
use Rattle.dc_batch.proofs.laws.faults_are_listed.Goals as goal

pub returns : goal.returns
returns c = record { none = none_listed; first = first_listed }
