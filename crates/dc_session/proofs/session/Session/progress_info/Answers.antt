use Rattle.std.proofs.Common.{[], ◌≡◌, true, false, sym, ◌∙◌, rules}
use Rattle.dc_session.proofs.ProgressLemmas.{info_without, info_none, info_missing, info_does}
use Rattle.dc_session.proofs.AskingLemmas.{told_comes}
use Rattle.dc_session.proofs.session.Session.progress_info.Goals as goal

pub returns-then-is_none-clause-does : goal.returns-then-is_none-clause-does
returns-then-is_none-clause-does g c = rw c.lifted.ensures (info_without _ c.if-is_none.ensures c.says.result c.says.ensures _)

pub returns-in_default-clause-does : goal.returns-in_default-clause-does
returns-in_default-clause-does g c =
    rw c.lifted-in_default.ensures (info_none _ _ (rw c.in_default.is at c.in_ok-name.ensures) c.if-is_none.ensures c.missing.result (rw c.bytes.ensures at c.missing.ensures))

pub returns-then-not-exists-clause-does : goal.returns-then-not-exists-clause-does
returns-then-not-exists-clause-does g c =
    let named = rw c.in-Some.is at c.in_ok-name.ensures in
    let gone : c.exists.result ≡ false = search rules in
    rw c.lifted-then-not-exists.ensures (info_missing _ _ _ named c.if-is_none.ensures (sym c.exists.ensures ∙ gone) c.missing-then-not-exists.result (rw c.bytes-then-not-exists.ensures.value at c.missing-then-not-exists.ensures))

pub returns-clause-does : goal.returns-clause-does
returns-clause-does g c =
    let named = rw c.in-Some.is at c.in_ok-name.ensures in
    let there : c.exists.result ≡ true = search rules in
    rw c.lifted-2.ensures (info_does _ _ _ named c.if-is_none.ensures (sym c.exists.ensures ∙ there) _ c.in_ok-tell_description.ensures.tells c.says-2.result (told_comes _ [] _ c.says-2.result c.says-2.ensures))
