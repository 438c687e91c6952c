use Rattle.std.proofs.Common.{rules, ◌≡◌, true, false, sym, ◌∙◌}
use Rattle.dc_session.proofs.CommandLemmas.{unregister_none, unregister_does}
use Rattle.dc_session.proofs.AskingLemmas.{unregister_missing, unregister_busy}
use Rattle.dc_session.proofs.session.Session.unregister.Goals as goal

pub returns-clause-does : goal.returns-clause-does
returns-clause-does g c =
    let named = rw c.in-Some.is at c.in_ok-name.ensures in
    let there : c.exists.result ≡ true = search rules in
    let free : c.contains.result ≡ false = search rules in
    unregister_does _ _ _ c.unregister-done.ensures.frame.context _ _ named (sym c.exists.ensures ∙ there) (sym c.contains.ensures ∙ free) c.unregister-done.ensures.frame.others c.unregister-done.result c.unregister-done.ensures.does
    c.confirm.result c.confirm.ensures

pub returns-in_default-clause-does : goal.returns-in_default-clause-does
returns-in_default-clause-does g c = unregister_none _ _ (rw c.in_default.is at c.in_ok-name.ensures) c.missing.result (rw c.bytes.ensures at c.missing.ensures)

pub returns-then-not-exists-clause-does : goal.returns-then-not-exists-clause-does
returns-then-not-exists-clause-does g c =
    let named = rw c.in-Some.is at c.in_ok-name.ensures in
    let gone : c.exists.result ≡ false = search rules in
    unregister_missing _ _ _ named (sym c.exists.ensures ∙ gone) c.missing-then-not-exists.result (rw c.bytes-then-not-exists.ensures.value at c.missing-then-not-exists.ensures)

pub returns-then-contains-clause-does : goal.returns-then-contains-clause-does
returns-then-contains-clause-does g c =
    let named = rw c.in-Some.is at c.in_ok-name.ensures in
    let there : c.exists.result ≡ true = search rules in
    let prepared : c.contains.result ≡ true = search rules in
    unregister_busy _ _ _ named (sym c.exists.ensures ∙ there) (sym c.contains.ensures ∙ prepared) c.busy.result (rw c.bytes-then-contains.ensures.value at c.busy.ensures)
