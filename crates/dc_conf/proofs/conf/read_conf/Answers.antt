use Rattle.std.proofs.Common.{◌≡◌, true, None, List, sym, ap, ◌∙◌, subst}
use Rattle.std.proofs.lemmas.Result.{err_from_is_err_and}
use Rattle.dc_conf.specs.Stanzas.{Stanza}
use Rattle.dc_conf.specs.Configuration.{configuration, is_sound}
use Rattle.dc_conf.specs.Machine.{Rise, decided, later_passes, AreModes}
use Rattle.dc_conf.proofs.AnswerLemmas.{ok_read, error_is, fault_is, none_is, modes_read, sound_read}
use Rattle.dc_conf.proofs.TestLemmas.{not_some}
use Rattle.dc_conf.proofs.conf.read_conf.Goals as goal

pub returns-in_err-stanzas : goal.returns-in_err-stanzas
returns-in_err-stanzas c =
    let p = err_from_is_err_and c.from_residual.result c.from_residual.ensures.1 in
    rw (p.1, p.2) (error_is c.args.bytes.now c.in_err-stanzas.field-0.0 c.in_err-stanzas.ensures)

pub find_fault-requires : goal.find_fault-requires
find_fault-requires c = subst (Rise 1) (sym c.as_slice.ensures) (ok_read c.args.bytes.now c.in_ok-stanzas.stanzas c.in_ok-stanzas.ensures).rise

pub returns-in-Some : goal.returns-in-Some
returns-in-Some c =
    fault_is c.args.bytes.now c.in_ok-stanzas.stanzas c.in-Some.fault (ok_read c.args.bytes.now c.in_ok-stanzas.stanzas c.in_ok-stanzas.ensures)
    (ap (λ (ss : List Stanza). decided (later_passes ss)) (sym c.as_slice.ensures) ∙ sym c.in_ok-fault.ensures ∙ c.in-Some.is)

pub configure-requires : goal.configure-requires
configure-requires c =
    let none : decided (later_passes c.in_ok-stanzas.stanzas) ≡ None =
    ap (λ (ss : List Stanza). decided (later_passes ss)) (sym c.as_slice.ensures) ∙ sym c.in_ok-fault.ensures ∙ not_some _ c.in_default.not-Some in
    record {
      modes = subst AreModes (sym c.as_slice-2.ensures) (modes_read c.in_ok-stanzas.stanzas none);
      sound = subst (λ (ss : List Stanza). is_sound (configuration ss) ≡ true) (sym c.as_slice-2.ensures) (sound_read c.in_ok-stanzas.stanzas none);
    }

pub returns : goal.returns
returns c =
    let read = ok_read c.args.bytes.now c.in_ok-stanzas.stanzas c.in_ok-stanzas.ensures in
    let none : decided (later_passes c.in_ok-stanzas.stanzas) ≡ None =
    ap (λ (ss : List Stanza). decided (later_passes ss)) (sym c.as_slice.ensures) ∙ sym c.in_ok-fault.ensures ∙ not_some _ c.in_default.not-Some in
    (none_is c.args.bytes.now c.in_ok-stanzas.stanzas read none, c.in_ok-conf.ensures ∙ ap configuration (c.as_slice-2.ensures ∙ read.are))
