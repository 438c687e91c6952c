use Rattle.dc_session.proofs.FrameLaws.{others_stay}
use Rattle.dc_session.proofs.laws.other_items_stay.Goals as goal

pub returns : goal.returns
returns c old new command did done = others_stay command old new did done
