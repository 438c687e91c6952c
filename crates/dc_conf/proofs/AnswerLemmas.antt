-- What reading a text answers.
use Rattle.std.proofs.Common.{◌≡◌, ℕ, true, List, [], Some, None, Ok, Err, map as each, refl, sym, ap, ◌∙◌}
use Rattle.std.specs.List.{AllByRecursion}
use Rattle.std.proofs.lemmas.Result.{MatchResult-at_ok, MatchResult-at_err}
use Rattle.dc_conf.specs.declared.faults.Fault.{Fault}
use Rattle.dc_conf.specs.declared.faults.ConfError.{ConfError}
use Rattle.dc_conf.specs.declared.faults.ConfError.TheVariants.{Refused, OutOfMemory}
use Rattle.dc_conf.specs.Stanzas.{Stanza, stanzas, fields_of}
use Rattle.dc_conf.specs.ConfFaults.{fault, passes, Decides, first_pass}
use Rattle.dc_conf.specs.Configuration.{Configuration, IsAnswer, configuration, is_sound}
use Rattle.dc_conf.specs.Machine.{stanzas_read, least_of, or_else, decided, later_passes, IsRefusal, AreModes}
use Rattle.dc_conf.proofs.CleanLemmas.{modes_are}
use Rattle.dc_conf.proofs.LeastLemmas.{least_is, decided_none, decided_some}
use Rattle.dc_conf.proofs.ReadLemmas.{IsRead, read_is}
use Rattle.dc_conf.proofs.SoundLemmas.{sound}

pub ok_read : (text : List ℕ) (read : List Stanza) → stanzas_read text ≡ Ok read → IsRead text read
ok_read text read e = MatchResult-at_ok (IsRead text) (λ f. least_of (first_pass (stanzas text)) ≡ Some f) read e (read_is text)

-- a fault of the first pass decides
pub error_is : (text : List ℕ) (error : ConfError) → IsRefusal (stanzas_read text) error → IsAnswer text (Err error)
error_is text (Refused line kind) e = record {
  clean = [];
  pass = first_pass (stanzas text);
  rest = later_passes (each fields_of (stanzas text));
  whole = refl;
  none = tt;
  first_is = least_is (first_pass (stanzas text)) (fault line kind)
      (MatchResult-at_err (IsRead text) (λ f. least_of (first_pass (stanzas text)) ≡ Some f) (fault line kind) e (read_is text));
}
error_is text OutOfMemory e = tt

-- a fault of a later pass decides, where the first pass has none
pub fault_is : (text : List ℕ) (read : List Stanza) (f : Fault) → IsRead text read → decided (later_passes read) ≡ Some f → Decides (passes text) f
fault_is text read f is e =
    decided_some (passes text) f
    (ap (λ faults. or_else (least_of faults) (decided (later_passes (each fields_of (stanzas text))))) is.clean
    ∙ ap (λ ss. decided (later_passes ss)) (sym is.are) ∙ e)

-- no pass has a fault
pub none_is : (text : List ℕ) (read : List Stanza) → IsRead text read → decided (later_passes read) ≡ None → AllByRecursion (λ faults. faults ≡ []) (passes text)
none_is text read is e = (is.clean, decided_none (later_passes (each fields_of (stanzas text))) (ap (λ ss. decided (later_passes ss)) (sym is.are) ∙ e))

pub modes_read : (read : List Stanza) → decided (later_passes read) ≡ None → AreModes read
modes_read read e = modes_are read (decided_none (later_passes read) e).0

pub sound_read : (read : List Stanza) → decided (later_passes read) ≡ None → is_sound (configuration read) ≡ true
sound_read read e = let none = decided_none (later_passes read) e in sound read none.0 none.1.0 none.1.1.0

-- the same of a text that was read
pub sound_answer : (text : List ℕ) (conf : Configuration) → IsAnswer text (Ok conf) → is_sound conf ≡ true
sound_answer text conf is =
    let read : List Stanza = each fields_of (stanzas text) in
    ap is_sound is.1 ∙ sound read is.0.1.0 is.0.1.1.0 is.0.1.1.1.0
