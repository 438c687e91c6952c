use Rattle.dc_session.proofs.AskingLemmas.{title_does}
use Rattle.dc_session.proofs.session.Session.title.Goals as goal

pub returns-clause-does : goal.returns-clause-does
returns-clause-does g c = title_does _ _ _ c.in_ok-text.text c.in_ok-text.ensures c.retitle.result c.retitle.ensures.comes
