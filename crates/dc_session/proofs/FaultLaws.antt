-- A read fault is told exactly where the read of a template file failed.
use Rattle.std.proofs.Common.{◌≡◌, ◌⊎◌, inl, inr, ℕ, Bool, true, false, List, [], ◌∷◌, Option, None, Some, Result, Ok, Err, refl, sym, ap, subst, ◌∙◌, arith}
use Rattle.std.specs.Prelude.{◌+◌, ⊤, codes}
use Rattle.std.specs.Option.{option_map_or}
use Rattle.dc_outside.specs.Counts.{Counts, FaultRose}
use Rattle.dc_proto.specs.declared.command.Command.{Command}
use Rattle.dc_proto.specs.declared.command.Command.TheVariants.{Version, Capb, SetTitle, Title, Input, BeginBlock, EndBlock, Go, Clear, Stop, Get, Set, Reset, Subst, Fget, Fset, Metaget, Register, Unregister, Purge, ProgressStart, ProgressSet, ProgressStep, ProgressInfo, ProgressStop, LoadTemplateFile, XSave}
use Rattle.dc_proto.specs.declared.command.Heard.TheVariants.{Known}
use Rattle.dc_frontend.specs.declared.frontend.Frontend.{Frontend}
use Rattle.dc_frontend.specs.declared.frontend.Frontend.TheVariants.{Noninteractive, Teletype, Passthrough}
use Rattle.dc_proto.specs.declared.reply.Reply.{Reply}
use Rattle.dc_proto.specs.Replies.{reply}
use Rattle.dc_question.specs.Changes.{values_set}
use Rattle.dc_question.specs.Ownership.{unregistered, purged}
use Rattle.dc_question.specs.declared.errors.QuestionError.{QuestionError}
use Rattle.dc_question.specs.declared.errors.QuestionError.TheVariants as error
use Rattle.dc_store.specs.Plans.{StoreState, owned}
use Rattle.dc_teletype.specs.declared.teletype.Asked.{Asked}
use Rattle.dc_teletype.specs.declared.teletype.Asked.TheVariants.{Answers, Back}
use Rattle.dc_session.specs.Asking.{description, is_to_be_shown, prepared_if, choices_for, first_fixed, to_show, values_given, first_busy, bar_at}
use Rattle.dc_session.specs.Answers.{CommandInputs, CommandOutcome, reply_read, reply_write, and_then, for_question, there, reply_asking, titled, with_bar, unless_busy, gone, input_reply, answered, heard_out, going, reply_only, told_code, is_supported, is_truth, answer}
use Rattle.dc_session.specs.Machine.{Gives, Looks, HasDone, is_save}
use Rattle.dc_session.specs.Refusals.{refusal, cant_change, is_busy, no_progress_bar}
use Rattle.dc_session.specs.SessionState.{FilesState, ScreenState, SessionState}
use Rattle.dc_session.specs.declared.asking.Bar.{Bar}
use Rattle.dc_session.specs.declared.stepped.Stepped.{Stepped}
use Rattle.dc_session.specs.declared.stepped.Stepped.TheVariants.{Silent, Replied, Save, Stopped}
use Rattle.dc_session.specs.declared.template_files.Found.{Found}
use Rattle.dc_session.specs.declared.template_files.Found.TheVariants.{Unreadable, Missing, Faulty, Templates}

-- a code that tells of no fault
abbrev IsSoundCode : ℕ → Type 0
IsSoundCode code = (code ≡ 0) ⊎ (code ≡ 1) ⊎ (code ≡ 10) ⊎ (code ≡ 30)

-- what tells of no fault, and is no save
abbrev pub IsSound : Stepped → Type 0
IsSound Silent = ⊤
IsSound (Replied reply) = IsSoundCode reply.code
IsSound Save = ⊥
IsSound Stopped = ⊤

-- the same of what doesn't ask for a save; what asks for one comes to that
abbrev pub IsFaultless : Bool → Stepped → Type 0
IsFaultless true did = did ≡ Save
IsFaultless false did = IsSound did

zero : IsSoundCode 0
zero = inl refl

one : IsSoundCode 1
one = inr (inl refl)

ten : IsSoundCode 10
ten = inr (inr (inl refl))

thirty : IsSoundCode 30
thirty = inr (inr (inr refl))

refusal_sound : (field : List ℕ) (e : QuestionError) → IsSoundCode (refusal field e).code
refusal_sound field (error.NoQuestion name) = ten
refusal_sound field (error.NoTemplate name) = ten
refusal_sound field error.NoField = ten
refusal_sound field (error.CantChange name) = ten
refusal_sound field (error.Twice name) = ten
refusal_sound field error.OutOfMemory = ten

says_sound : {A : Type 0} (state : SessionState) (field : List ℕ) (reply : A → Reply) (result : Result A QuestionError) → ((a : A) → IsSoundCode (reply a).code) → IsSound (reply_read state field reply result).stepped
says_sound state field reply (Ok a) sound = sound a
says_sound state field reply (Err e) sound = refusal_sound field e

does_sound : (state : SessionState) (reply : Reply) (result : Result StoreState QuestionError) → IsSoundCode reply.code → IsSound (reply_write state reply result).stepped
does_sound state reply (Ok new) sound = sound
does_sound state reply (Err e) sound = refusal_sound [] e

by_sound : {A : Type 0} (state : SessionState) (outcome : A → CommandOutcome) (result : Result A QuestionError) → ((a : A) → IsSound (outcome a).stepped) → IsSound (and_then state outcome result).stepped
by_sound state outcome (Ok a) sound = sound a
by_sound state outcome (Err e) sound = refusal_sound [] e

busy_sound : (state : SessionState) (busy : Option (List ℕ)) (outcome : CommandOutcome) → IsSound outcome.stepped → IsSound (option_map_or (λ name. reply_only state (is_busy name)) busy outcome).stepped
busy_sound state None outcome sound = sound
busy_sound state (Some name) outcome sound = ten

bar_sound : (bar : Option Bar) (outcome : Bar → CommandOutcome) (none : CommandOutcome) → ((b : Bar) → IsSound (outcome b).stepped) → IsSound none.stepped → IsSound (option_map_or outcome bar none).stepped
bar_sound None outcome none sound nothing = nothing
bar_sound (Some bar) outcome none sound nothing = sound bar

gone_sound : (state : SessionState) (batch : Result StoreState QuestionError) → IsSound (gone state batch).stepped
gone_sound state (Ok store) = zero
gone_sound state (Err e) = refusal_sound [] e

text_sound : (escape : Bool) → IsSoundCode (told_code escape)
text_sound true = one
text_sound false = zero

fset_sound : (state : SessionState) (word key text : List ℕ) (given : CommandInputs) (b : Bool) → is_truth text ≡ b → IsSound (answer state (Fset word key text) given).stepped
fset_sound state word key text given true is = rw is (does_sound state _ _ zero)
fset_sound state word key text given false is = rw is (says_sound state [] _ _ (λ a. ten))

version_sound : (state : SessionState) (version : Option (List ℕ)) (given : CommandInputs) (b : Bool) → is_supported version ≡ b → IsSound (answer state (Version version) given).stepped
version_sound state version given true is = rw is zero
version_sound state version given false is = rw is thirty

-- a fault is told and counted, or neither
abbrev pub IsToldAsCounted : Bool → Stepped → Counts → Counts → Type 0
IsToldAsCounted asks did before now = ((reply : Reply) × (did ≡ Replied reply) × (reply.code ≡ 100) × FaultRose before now) ⊎ (IsFaultless asks did × (now ≡ before))

file_told : (state : SessionState) (path : List ℕ) (owner : Option (List ℕ)) (found : Found) (asked : Asked) (new : FilesState) → Looks (Some path) state.files found new
    → IsToldAsCounted false (answer state (LoadTemplateFile path owner) (record { found = found; asked = asked })).stepped state.files.counts new.counts
file_told state path owner Unreadable asked new looks = inl (_, refl, refl, looks.1)
file_told state path owner Missing asked new looks = inr (ten, looks.counts)
file_told state path owner (Faulty line) asked new looks = inr (ten, looks.2.counts)
file_told state path owner (Templates templates) asked new looks = inr (does_sound state _ _ zero, looks.1.counts)

input_sound : (frontend : Frontend) (shown : Bool) → IsSoundCode (input_reply frontend shown).code
input_sound Noninteractive shown = thirty
input_sound Teletype true = zero
input_sound Teletype false = thirty
input_sound Passthrough true = zero
input_sound Passthrough false = thirty

answered_sound : (state : SessionState) (batch : Result StoreState QuestionError) → IsSound (answered state batch).stepped
answered_sound state (Ok store) = zero
answered_sound state (Err e) = refusal_sound [] e

heard_sound : (state : SessionState) (asked : Asked) → IsSound (heard_out state asked).stepped
heard_sound state Back = thirty
heard_sound state (Answers answers) = answered_sound state (values_set state.store state.at (values_given (to_show state) answers))

fixed_sound : (state : SessionState) (fixed : Option (List ℕ)) (asked : Asked) → IsSound (option_map_or (λ name. reply_only state (cant_change name)) fixed (heard_out state asked)).stepped
fixed_sound state None asked = heard_sound state asked
fixed_sound state (Some name) asked = ten

going_sound : (frontend : Frontend) (state : SessionState) (asked : Asked) → IsSound (going frontend state asked).stepped
going_sound Noninteractive state asked = gone_sound state (values_set state.store state.at (choices_for state))
going_sound Teletype state asked = fixed_sound state (first_fixed state) asked
going_sound Passthrough state asked = fixed_sound state (first_fixed state) asked

pub told_as_counted : (state : SessionState) (command : Command) (given : CommandInputs) (new : FilesState) (terminal : ScreenState) → Gives command state given new terminal
    → IsToldAsCounted (is_save (Known command)) (answer state command given).stepped state.files.counts new.counts
told_as_counted state (LoadTemplateFile path owner) given new terminal gives = file_told state path owner given.found given.asked new gives.looks
told_as_counted state (Version version) given new terminal gives = inr (version_sound state version given (is_supported version) refl, ap (λ (f : FilesState). f.counts) gives.looks.1)
told_as_counted state (Capb words) given new terminal gives = inr (zero, ap (λ (f : FilesState). f.counts) gives.looks.1)
told_as_counted state (SetTitle word) given new terminal gives = inr (by_sound {A = List ℕ} state (λ text. reply_asking state (reply 0 []) (titled state.asking text)) (for_question word (description state.store.layers state.at)) (λ text. zero), ap (λ (f : FilesState). f.counts) gives.looks.1)
told_as_counted state (Title text) given new terminal gives = inr (zero, ap (λ (f : FilesState). f.counts) gives.looks.1)
told_as_counted state (Input priority word) given new terminal gives = inr (by_sound {A = Bool} state (λ shown. reply_asking state (input_reply state.policy.frontend shown) (prepared_if shown state.asking word)) (for_question word (is_to_be_shown state priority)) (λ shown. input_sound state.policy.frontend shown), ap (λ (f : FilesState). f.counts) gives.looks.1)
told_as_counted state BeginBlock given new terminal gives = inr (zero, ap (λ (f : FilesState). f.counts) gives.looks.1)
told_as_counted state EndBlock given new terminal gives = inr (zero, ap (λ (f : FilesState). f.counts) gives.looks.1)
told_as_counted state Go given new terminal gives = inr (going_sound state.policy.frontend state given.asked, ap (λ (f : FilesState). f.counts) gives.looks.1)
told_as_counted state Clear given new terminal gives = inr (zero, ap (λ (f : FilesState). f.counts) gives.looks.1)
told_as_counted state Stop given new terminal gives = inr (tt, ap (λ (f : FilesState). f.counts) gives.looks.1)
told_as_counted state XSave given new terminal gives = inr (refl, ap (λ (f : FilesState). f.counts) gives.looks.1)
told_as_counted state (Get word) given new terminal gives = inr (says_sound state [] _ _ (λ a. text_sound state.asking.escape), ap (λ (f : FilesState). f.counts) gives.looks.1)
told_as_counted state (Set word text) given new terminal gives = inr (does_sound state _ _ zero, ap (λ (f : FilesState). f.counts) gives.looks.1)
told_as_counted state (Reset word) given new terminal gives = inr (does_sound state _ _ zero, ap (λ (f : FilesState). f.counts) gives.looks.1)
told_as_counted state (Subst word key text) given new terminal gives = inr (does_sound state _ _ zero, ap (λ (f : FilesState). f.counts) gives.looks.1)
told_as_counted state (Fget word key) given new terminal gives = inr (says_sound state [] _ _ (λ a. zero), ap (λ (f : FilesState). f.counts) gives.looks.1)
told_as_counted state (Fset word key text) given new terminal gives = inr (fset_sound state word key text given (is_truth text) refl, ap (λ (f : FilesState). f.counts) gives.looks.1)
told_as_counted state (Metaget word field) given new terminal gives = inr (says_sound state field _ _ (λ a. text_sound state.asking.escape), ap (λ (f : FilesState). f.counts) gives.looks.1)
told_as_counted state (Register template name) given new terminal gives = inr (does_sound state _ _ zero, ap (λ (f : FilesState). f.counts) gives.looks.1)
told_as_counted state (Unregister word) given new terminal gives = inr (by_sound {A = List ℕ} state (λ name. unless_busy state (name ∷ []) (reply_write state (reply 0 []) (unregistered state.store state.at name state.owner))) (for_question word (there state)) (λ name. busy_sound state (first_busy state.asking (name ∷ [])) (reply_write state (reply 0 []) (unregistered state.store state.at name state.owner)) (does_sound state (reply 0 []) (unregistered state.store state.at name state.owner) zero)), ap (λ (f : FilesState). f.counts) gives.looks.1)
told_as_counted state Purge given new terminal gives = inr (busy_sound state (first_busy state.asking (owned state.store.layers state.at.config state.owner)) (reply_write state (reply 0 []) (purged state.store state.at state.owner)) (does_sound state (reply 0 []) (purged state.store state.at state.owner) zero), ap (λ (f : FilesState). f.counts) gives.looks.1)
told_as_counted state (ProgressStart low high word) given new terminal gives = inr (by_sound {A = List ℕ} state (λ name. reply_asking state (reply 0 (codes "OK")) (with_bar state.asking (Some (record { min = low; max = high; place = low })))) (for_question word (there state)) (λ name. zero), ap (λ (f : FilesState). f.counts) gives.looks.1)
told_as_counted state (ProgressSet number) given new terminal gives = inr (bar_sound state.asking.bar (λ bar. reply_asking state (reply 0 (codes "OK")) (with_bar state.asking (Some (bar_at bar number)))) (reply_only state no_progress_bar) (λ bar. zero) ten, ap (λ (f : FilesState). f.counts) gives.looks.1)
told_as_counted state (ProgressStep number) given new terminal gives = inr (bar_sound state.asking.bar (λ bar. reply_asking state (reply 0 (codes "OK")) (with_bar state.asking (Some (bar_at bar (bar.place + number))))) (reply_only state no_progress_bar) (λ bar. zero) ten, ap (λ (f : FilesState). f.counts) gives.looks.1)
told_as_counted state (ProgressInfo word) given new terminal gives = inr (bar_sound state.asking.bar (λ bar. and_then {A = List ℕ} state (λ name. reply_only state (reply 0 (codes "OK"))) (for_question word (there state))) (reply_only state no_progress_bar) (λ bar. by_sound {A = List ℕ} state (λ name. reply_only state (reply 0 (codes "OK"))) (for_question word (there state)) (λ name. zero)) ten, ap (λ (f : FilesState). f.counts) gives.looks.1)
told_as_counted state ProgressStop given new terminal gives = inr (bar_sound state.asking.bar (λ bar. reply_asking state (reply 0 (codes "OK")) (with_bar state.asking None)) (reply_only state no_progress_bar) (λ bar. zero) ten, ap (λ (f : FilesState). f.counts) gives.looks.1)

no_fault : (code : ℕ) → IsSoundCode code → code ≡ 100 → ⊥
no_fault code sound fault = elim sound [
  | inl none ↦ (let e : code ≡ 0 = none in let f : code ≡ 100 = fault in omega arith)
  | inr (inl text) ↦ (let e : code ≡ 1 = text in let f : code ≡ 100 = fault in omega arith)
  | inr (inr (inl refused)) ↦ (let e : code ≡ 10 = refused in let f : code ≡ 100 = fault in omega arith)
  | inr (inr (inr skipped)) ↦ (let e : code ≡ 30 = skipped in let f : code ≡ 100 = fault in omega arith)
]

module _ (command : Command) (old new : SessionState) (reply : Reply) (did : HasDone command old (Replied reply) new) where
  sound_is : (asks : Bool) (did : Stepped) → Replied reply ≡ did → IsFaultless asks did → IsSoundCode reply.code
  sound_is true did is saves = let no : ◌≡◌ {A = Stepped} (Replied reply) Save = is ∙ saves in cc
  sound_is false did is sound = subst IsSound (sym is) sound

  code_is : (other : Reply) → Replied reply ≡ Replied other → other.code ≡ 100 → reply.code ≡ 100
  code_is other same fault = let e : reply ≡ other = cc in ap (λ (r : Reply). r.code) e ∙ fault

  pub fault_counted : reply.code ≡ 100 → FaultRose old.files.counts new.files.counts
  fault_counted fault = elim (told_as_counted old command did.given new.files new.terminal did.gives) [
    | inl rose ↦ rose.3
    | inr none ↦ absurd (no_fault reply.code (sound_is (is_save (Known command)) (answer old command did.given).stepped did.stepped_is none.0) fault)
  ]

  pub none_counted : (reply.code ≡ 100 → ⊥) → new.files.counts ≡ old.files.counts
  none_counted other = elim (told_as_counted old command did.given new.files new.terminal did.gives) [
    | inl rose ↦ absurd (other (code_is rose.0 (did.stepped_is ∙ rose.1) rose.2))
    | inr none ↦ none.1
  ]
