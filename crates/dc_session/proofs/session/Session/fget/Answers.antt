use Rattle.dc_session.proofs.CommandLemmas.{fget_none, fget_does}
use Rattle.dc_session.proofs.session.Session.fget.Goals as goal

pub returns : goal.returns
returns g c =
    let named = rw c.in-Some.is at c.in_ok-name.ensures in
    fget_does _ _ _ named _ c.flag.result c.flag.ensures c.tell_flag.result c.tell_flag.ensures

pub returns-in_default : goal.returns-in_default
returns-in_default g c = fget_none _ _ (rw c.in_default.is at c.in_ok-name.ensures) c.missing.result (rw c.bytes.ensures at c.missing.ensures) _
