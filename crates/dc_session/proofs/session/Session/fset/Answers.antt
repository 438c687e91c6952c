use Rattle.std.proofs.Common.{◌≡◌, true, false, rules}
use Rattle.std.specs.Prelude.{codes}
use Rattle.std.specs.Str.{bytes_eq}
use Rattle.dc_session.specs.Answers.{is_truth}
use Rattle.dc_session.proofs.CommandLemmas.{fset_none, bad_flag_does, fset_does}
use Rattle.dc_session.proofs.session.Session.fset.Goals as goal

pub returns-then-not-is_shown_truth-clause-does : goal.returns-then-not-is_shown_truth-clause-does
returns-then-not-is_shown_truth-clause-does g c =
    let named = rw c.in-Some.is at c.in_ok-name.ensures in
    let other : is_truth c.args.value.now ≡ false = search rules in
    bad_flag_does _ _ _ named _ _ other c.flag.result c.flag.ensures c.tell_bad_flag.result c.tell_bad_flag.ensures

pub returns-clause-does : goal.returns-clause-does
returns-clause-does g c =
    let named = rw c.in-Some.is at c.in_ok-name.ensures in
    let truth : is_truth c.args.value.now ≡ true = search rules in
    let is : c.eq-is.result ≡ bytes_eq c.args.value.now (codes "true") = search rules in
    let does = rw is at c.set_flag-done.ensures.does in
    let told = rw c.bytes-4.ensures at c.confirm.ensures in
    fset_does _ _ _ c.set_flag-done.ensures.frame.context _ _ named _ _ truth c.set_flag-done.ensures.frame.others c.set_flag-done.result does c.confirm.result told

pub returns-in_default-clause-does : goal.returns-in_default-clause-does
returns-in_default-clause-does g c = fset_none _ _ (rw c.in_default.is at c.in_ok-name.ensures) c.missing.result (rw c.bytes.ensures at c.missing.ensures) _ _
