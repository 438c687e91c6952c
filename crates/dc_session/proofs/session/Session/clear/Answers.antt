use Rattle.dc_session.proofs.AskingLemmas.{clear_does}
use Rattle.dc_session.proofs.session.Session.clear.Goals as goal

pub returns-clause-does : goal.returns-clause-does
returns-clause-does g c = clear_does _ _ c.clear.ensures c.in_ok-told.told c.in_ok-told.ensures
