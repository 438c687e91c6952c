use Rattle.dc_session.proofs.TakenLaws.{all_taken}
use Rattle.dc_session.proofs.laws.given_answers_are_taken.Goals as goal

pub returns : goal.returns
returns c old new did user free done = all_taken old user free did new done
