use Rattle.dc_theorem.proofs.MovingLaw.{moved}
use Rattle.dc_theorem.proofs.moving.answers_move_between_machines.Goals as goal

pub returns : goal.returns
returns c settings other_settings old new other last outcome again verbose says done sets again_done clean over are_new =
    moved settings other_settings old new other last outcome again verbose says sets done again_done clean over are_new
