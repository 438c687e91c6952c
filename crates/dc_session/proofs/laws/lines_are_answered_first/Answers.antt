use Rattle.dc_session.proofs.Teeth.{unanswered}
use Rattle.dc_session.proofs.laws.lines_are_answered_first.Goals as goal

pub returns : goal.returns
returns c = unanswered
