use Rattle.dc_session.proofs.CommandLemmas.{reset_none, reset_does}
use Rattle.dc_session.proofs.session.Session.reset.Goals as goal

pub returns-clause-does : goal.returns-clause-does
returns-clause-does g c =
    let named = rw c.in-Some.is at c.in_ok-name.ensures in
    reset_does _ _ _ c.reset-done.ensures.frame.context _ _ named c.reset-done.ensures.frame.others c.reset-done.result c.reset-done.ensures.does c.confirm.result c.confirm.ensures

pub returns-in_default-clause-does : goal.returns-in_default-clause-does
returns-in_default-clause-does g c = reset_none _ _ (rw c.in_default.is at c.in_ok-name.ensures) c.missing.result (rw c.bytes.ensures at c.missing.ensures)
