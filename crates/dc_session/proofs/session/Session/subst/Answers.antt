use Rattle.dc_session.proofs.CommandLemmas.{subst_none, subst_does}
use Rattle.dc_session.proofs.session.Session.subst.Goals as goal

pub returns-clause-does : goal.returns-clause-does
returns-clause-does g c =
    let named = rw c.in-Some.is at c.in_ok-name.ensures in
    let does = rw c.bytes-2.ensures at c.subst-done.ensures.does in
    subst_does _ _ _ c.subst-done.ensures.frame.context _ _ named _ _ c.subst-done.ensures.frame.others c.subst-done.result does c.confirm.result c.confirm.ensures

pub returns-in_default-clause-does : goal.returns-in_default-clause-does
returns-in_default-clause-does g c = subst_none _ _ (rw c.in_default.is at c.in_ok-name.ensures) c.missing.result (rw c.bytes.ensures at c.missing.ensures) _ _
