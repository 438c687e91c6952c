use Rattle.std.proofs.Common.{◌≡◌, true, false, sym, ◌∙◌, rules}
use Rattle.dc_session.proofs.CommandLemmas.{progress_start_none}
use Rattle.dc_session.proofs.ProgressLemmas.{start_missing, start_does}
use Rattle.dc_session.proofs.TerminalLemmas.{lifts}
use Rattle.dc_session.proofs.session.Session.progress_start.Goals as goal

pub returns-in_default-clause-does : goal.returns-in_default-clause-does
returns-in_default-clause-does g c =
    rw c.lifted.ensures (lifts _ _ _ c.missing.result (progress_start_none _ _ (rw c.in_default.is at c.in_ok-name.ensures) c.missing.result (rw c.bytes.ensures at c.missing.ensures) _ _))

pub returns-then-not-exists-clause-does : goal.returns-then-not-exists-clause-does
returns-then-not-exists-clause-does g c =
    let named = rw c.in-Some.is at c.in_ok-name.ensures in
    let gone : c.exists.result ≡ false = search rules in
    rw c.lifted-then-not-exists.ensures (start_missing _ _ _ named _ _ (sym c.exists.ensures ∙ gone) c.missing-then-not-exists.result (rw c.bytes-then-not-exists.ensures.value at c.missing-then-not-exists.ensures))

pub returns-clause-does : goal.returns-clause-does
returns-clause-does g c =
    let named = rw c.in-Some.is at c.in_ok-name.ensures in
    let there : c.exists.result ≡ true = search rules in
    rw c.lifted-2.ensures (start_does _ _ _ named _ _ (sym c.exists.ensures ∙ there) _ _ c.in_ok-tell_description.ensures.tells c.put_bar.result c.put_bar.ensures.comes)
