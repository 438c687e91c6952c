use Rattle.std.proofs.Common.{ap, Err}
use Rattle.dc_session.proofs.CommandLemmas.{key_reads, no_key_reads}
use Rattle.dc_session.proofs.session.Session.field.Goals as goal

pub returns-in-Ok : goal.returns-in-Ok
returns-in-Ok g c =
    let value = rw c.bytes.ensures at c.in-Ok.ensures.value in
    let ok = rw c.bytes.ensures at c.in-Ok.ensures.ok in
    let told = rw (c.bytes-in-Ok.ensures, c.told_code.ensures) at c.tell.ensures in
    key_reads _ _ _ c.in-Ok.key value ok c.expanded.result c.expanded.ensures c.tell.result told

pub returns-in_ok-key-in-Err-Bad : goal.returns-in_ok-key-in-Err-Bad
returns-in_ok-key-in-Err-Bad g c =
    let found = c.in-Err-Bad.ensures.bad (ap (λ e. Err e) c.in-Err-Bad.field-0-is) in
    let bad = rw c.bytes.ensures at found in
    let told = rw c.bytes-in-Err-Bad.ensures at c.tell_no_field.ensures in
    no_key_reads _ _ _ c.in_ok-key-in-Err-Bad.key bad c.expanded-in-Err-Bad.result c.expanded-in-Err-Bad.ensures c.tell_no_field.result told
