use Rattle.std.proofs.Common.{sym, ◌∙◌}
use Rattle.dc_session.proofs.AskingLemmas.{purge_busy, purge_does}
use Rattle.dc_session.proofs.session.Session.purge.Goals as goal

pub returns-in-Some-clause-does : goal.returns-in-Some-clause-does
returns-in-Some-clause-does g c =
    let owned = c.as_slice.ensures ∙ c.in_ok-owned.ensures in
    let named = rw (c.in-Some.is, owned) at c.first_among.ensures in
    purge_busy _ c.in-Some.name.now (sym named) c.busy.result (rw c.bytes.ensures.value at c.busy.ensures)

pub returns-clause-does : goal.returns-clause-does
returns-clause-does g c =
    let owned = c.as_slice.ensures ∙ c.in_ok-owned.ensures in
    let none = rw (c.in-None.is, owned) at c.first_among.ensures in
    purge_does _ _ (sym none) c.purge_owned.result c.purge_owned.ensures.comes
