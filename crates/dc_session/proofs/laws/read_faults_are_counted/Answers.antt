use Rattle.dc_session.proofs.FaultLaws.{fault_counted, none_counted}
use Rattle.dc_session.proofs.laws.read_faults_are_counted.Goals as goal

pub returns-clause-told : goal.returns-clause-told
returns-clause-told c command old new reply did fault = fault_counted command old new reply did fault

pub returns-clause-stays : goal.returns-clause-stays
returns-clause-stays c command old new reply did other = none_counted command old new reply did other
