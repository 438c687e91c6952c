use Rattle.dc_session.proofs.CommandLemmas.{none_loads, load_does}
use Rattle.dc_session.proofs.session.Session.load.Goals as goal

pub returns-in-Err-clause-does : goal.returns-in-Err-clause-does
returns-in-Err-clause-does g c = none_loads _ _ _ _ _ c.in-Err.ensures.err

pub returns-in-Ok-clause-does : goal.returns-in-Ok-clause-does
returns-in-Ok-clause-does g c = load_does _ _ _ _ _ c.owner_or-owner.ensures c.in-Ok.found c.in-Ok.ensures.ok _ c.take_found.result c.take_found.ensures.comes
