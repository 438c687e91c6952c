use Rattle.dc_session.proofs.CommandLemmas.{metaget_none, metaget_does}
use Rattle.dc_session.proofs.session.Session.metaget.Goals as goal

pub returns : goal.returns
returns g c =
    let named = rw c.in-Some.is at c.in_ok-name.ensures in
    metaget_does _ _ _ named _ c.field.result c.field.ensures

pub returns-in_default : goal.returns-in_default
returns-in_default g c = metaget_none _ _ (rw c.in_default.is at c.in_ok-name.ensures) c.missing.result (rw c.bytes.ensures at c.missing.ensures) _
