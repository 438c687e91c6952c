use Rattle.dc_session.proofs.AskingLemmas.{set_title_does, set_title_refused}
use Rattle.dc_session.proofs.CommandLemmas.{set_title_none}
use Rattle.dc_session.proofs.session.Session.set_title.Goals as goal

pub returns-in_default-clause-does : goal.returns-in_default-clause-does
returns-in_default-clause-does g c = set_title_none _ _ (rw c.in_default.is at c.in_ok-name.ensures) c.missing.result (rw c.bytes.ensures at c.missing.ensures)

pub returns-in-Ok-clause-does : goal.returns-in-Ok-clause-does
returns-in-Ok-clause-does g c = set_title_does _ _ _ _ (rw c.in-Some.is at c.in_ok-name.ensures) c.in-Ok.text c.in-Ok.ensures c.retitle.result c.retitle.ensures.comes

pub returns-clause-does : goal.returns-clause-does
returns-clause-does g c = set_title_refused _ _ _ (rw c.in-Some.is at c.in_ok-name.ensures) c.in-Err.error c.in-Err.ensures c.refused.result c.refused.ensures
