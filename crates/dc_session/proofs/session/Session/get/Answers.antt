use Rattle.dc_session.proofs.CommandLemmas.{get_none, get_does}
use Rattle.dc_session.proofs.session.Session.get.Goals as goal

pub returns : goal.returns
returns g c =
    let named = rw c.in-Some.is at c.in_ok-name.ensures in
    let told = rw c.told_code.ensures at c.tell.ensures in
    get_does _ _ _ named c.value.result c.value.ensures c.tell.result told

pub returns-in_default : goal.returns-in_default
returns-in_default g c = get_none _ _ (rw c.in_default.is at c.in_ok-name.ensures) c.missing.result (rw c.bytes.ensures at c.missing.ensures)
