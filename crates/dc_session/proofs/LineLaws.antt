-- What one line changes.
use Rattle.std.proofs.Common.{◌≡◌, ◌⊎◌, ℕ, Bool, true, false, List, [], ◌∷◌, Option, None, Some, refl, ap, ◌∙◌, inl, inr}
use Rattle.std.specs.Prelude.{◌+◌, Result, Ok, Err, unwrap_or, codes}
use Rattle.std.specs.Option.{option_map_or}
use Rattle.dc_words.specs.declared.stream.Line.{Line}
use Rattle.dc_words.specs.declared.stream.Line.TheVariants.{Whole, TooLong}
use Rattle.dc_frontend.specs.declared.frontend.Frontend.{Frontend}
use Rattle.dc_frontend.specs.declared.frontend.Frontend.TheVariants.{Noninteractive, Teletype, Passthrough}
use Rattle.dc_proto.specs.Commands.{heard}
use Rattle.dc_proto.specs.Replies.{reply}
use Rattle.dc_proto.specs.declared.command.Command.{Command}
use Rattle.dc_proto.specs.declared.command.Command.TheVariants.{Version, Capb, SetTitle, Title, Input, BeginBlock, EndBlock, Go, Clear, Stop, Get, Set, Reset, Subst, Fget, Fset, Metaget, Register, Unregister, Purge, ProgressStart, ProgressSet, ProgressStep, ProgressInfo, ProgressStop, LoadTemplateFile, XSave}
use Rattle.dc_proto.specs.declared.command.Heard.{Heard}
use Rattle.dc_proto.specs.declared.command.Heard.TheVariants.{Nothing, Known, Refused}
use Rattle.dc_proto.specs.declared.reply.Reply.{Reply}
use Rattle.dc_question.specs.Changes.{values_set}
use Rattle.dc_question.specs.Ownership.{loaded, unregistered, purged}
use Rattle.dc_question.specs.declared.errors.QuestionError.{QuestionError}
use Rattle.dc_store.specs.Plans.{StoreState, owned}
use Rattle.dc_teletype.specs.declared.teletype.Asked.{Asked}
use Rattle.dc_teletype.specs.declared.teletype.Asked.TheVariants.{Answers, Back}
use Rattle.dc_session.specs.Asking.{description, is_to_be_shown, prepared_if, choices_for, first_fixed, to_show, values_given, first_busy, bar_at}
use Rattle.dc_session.specs.Answers.{CommandInputs, CommandOutcome, answer, answered, heard_out, going, input_reply, loading, and_then, for_question, there, reply_asking, titled, with_bar, unless_busy, reply_write, reply_read, gone, reply_only, is_truth}
use Rattle.dc_session.specs.Machine.{Steps, StepsHeard, HasDone}
use Rattle.dc_session.specs.Refusals.{cant_change, is_busy, no_progress_bar}
use Rattle.dc_session.specs.SessionState.{SessionState}
use Rattle.dc_session.specs.declared.asking.Asking.{Asking}
use Rattle.dc_session.specs.declared.asking.Bar.{Bar}
use Rattle.dc_session.specs.declared.stepped.Stepped.TheVariants.{Replied}
use Rattle.dc_session.specs.declared.template_files.Found.{Found}
use Rattle.dc_session.specs.declared.template_files.Found.TheVariants.{Unreadable, Missing, Faulty, Templates}

-- ---- what each outcome changes

-- the store changes with a reply of code 0 alone, and what is asked for with one of code 0 or 30
pub record IsMeek (state : SessionState) (outcome : CommandOutcome) : Type 0 where
  pub store : (outcome.store ≡ state.store) ⊎ ((r : Reply) × (outcome.stepped ≡ Replied r) × (r.code ≡ 0))
  pub asking : (outcome.asking ≡ state.asking) ⊎ ((r : Reply) × (outcome.stepped ≡ Replied r) × ((r.code ≡ 0) ⊎ (r.code ≡ 30)))

tells_meek : (state : SessionState) (r : Reply) → IsMeek state (reply_only state r)
tells_meek state r = record { store = inl refl; asking = inl refl }

says_meek : {A : Type 0} (state : SessionState) (field : List ℕ) (said : A → Reply) (reading : Result A QuestionError) → IsMeek state (reply_read state field said reading)
says_meek state field said (Ok answer) = record { store = inl refl; asking = inl refl }
says_meek state field said (Err error) = record { store = inl refl; asking = inl refl }

does_meek : (state : SessionState) (text : List ℕ) (batch : Result StoreState QuestionError) → IsMeek state (reply_write state (reply 0 text) batch)
does_meek state text (Ok new) = record { store = inr (_, refl, refl); asking = inl refl }
does_meek state text (Err error) = record { store = inl refl; asking = inl refl }

by_meek : {A : Type 0} (state : SessionState) (outcome : A → CommandOutcome) (reading : Result A QuestionError) → ((a : A) → IsMeek state (outcome a)) → IsMeek state (and_then state outcome reading)
by_meek state outcome (Ok answer) meek = meek answer
by_meek state outcome (Err error) meek = record { store = inl refl; asking = inl refl }

busy_meek : (state : SessionState) (busy : Option (List ℕ)) (outcome : CommandOutcome) → IsMeek state outcome → IsMeek state (option_map_or (λ name. reply_only state (is_busy name)) busy outcome)
busy_meek state None outcome meek = meek
busy_meek state (Some name) outcome meek = tells_meek state (is_busy name)

bar_meek : (state : SessionState) (bar : Option Bar) (outcome : Bar → CommandOutcome) (none : CommandOutcome) → ((b : Bar) → IsMeek state (outcome b)) → IsMeek state none → IsMeek state (option_map_or outcome bar none)
bar_meek state None outcome none meek nothing = nothing
bar_meek state (Some bar) outcome none meek nothing = meek bar

gone_meek : (state : SessionState) (batch : Result StoreState QuestionError) → IsMeek state (gone state batch)
gone_meek state (Ok store) = record { store = inr (_, refl, refl); asking = inr (_, refl, inl refl) }
gone_meek state (Err error) = record { store = inl refl; asking = inl refl }

loading_meek : (state : SessionState) (owner : List ℕ) (found : Found) → IsMeek state (loading state owner found)
loading_meek state owner Unreadable = record { store = inl refl; asking = inl refl }
loading_meek state owner Missing = record { store = inl refl; asking = inl refl }
loading_meek state owner (Faulty line) = record { store = inl refl; asking = inl refl }
loading_meek state owner (Templates templates) = does_meek state [] (loaded state.store state.at owner templates)

fset_meek : (state : SessionState) (word key text : List ℕ) (given : CommandInputs) (b : Bool) → is_truth text ≡ b → IsMeek state (answer state (Fset word key text) given)
fset_meek state word key text given true is = rw is (does_meek state text _)
fset_meek state word key text given false is = rw is (says_meek state [] _ _)

answered_meek : (state : SessionState) (batch : Result StoreState QuestionError) → IsMeek state (answered state batch)
answered_meek state (Ok store) = record { store = inr (_, refl, refl); asking = inr (_, refl, inl refl) }
answered_meek state (Err error) = record { store = inl refl; asking = inl refl }

heard_meek : (state : SessionState) (asked : Asked) → IsMeek state (heard_out state asked)
heard_meek state Back = record { store = inl refl; asking = inr (_, refl, inr refl) }
heard_meek state (Answers answers) = answered_meek state (values_set state.store state.at (values_given (to_show state) answers))

fixed_meek : (state : SessionState) (fixed : Option (List ℕ)) (asked : Asked) → IsMeek state (option_map_or (λ name. reply_only state (cant_change name)) fixed (heard_out state asked))
fixed_meek state None asked = heard_meek state asked
fixed_meek state (Some name) asked = tells_meek state (cant_change name)

going_meek : (frontend : Frontend) (state : SessionState) (asked : Asked) → IsMeek state (going frontend state asked)
going_meek Noninteractive state asked = gone_meek state (values_set state.store state.at (choices_for state))
going_meek Teletype state asked = fixed_meek state (first_fixed state) asked
going_meek Passthrough state asked = fixed_meek state (first_fixed state) asked

input_meek : (frontend : Frontend) (state : SessionState) (shown : Bool) (asking : Asking) → IsMeek state (reply_asking state (input_reply frontend shown) asking)
input_meek Noninteractive state shown asking = record { store = inl refl; asking = inr (_, refl, inr refl) }
input_meek Teletype state true asking = record { store = inl refl; asking = inr (_, refl, inl refl) }
input_meek Teletype state false asking = record { store = inl refl; asking = inr (_, refl, inr refl) }
input_meek Passthrough state true asking = record { store = inl refl; asking = inr (_, refl, inl refl) }
input_meek Passthrough state false asking = record { store = inl refl; asking = inr (_, refl, inr refl) }

answer_meek : (state : SessionState) (command : Command) (given : CommandInputs) → IsMeek state (answer state command given)
answer_meek state (Version version) given = record { store = inl refl; asking = inl refl }
answer_meek state (Capb words) given = record { store = inl refl; asking = inr (_, refl, inl refl) }
answer_meek state (SetTitle word) given = by_meek {A = List ℕ} state (λ text. reply_asking state (reply 0 []) (titled state.asking text)) (for_question word (description state.store.layers state.at)) (λ text. record { store = inl refl; asking = inr (_, refl, inl refl) })
answer_meek state (Title text) given = record { store = inl refl; asking = inr (_, refl, inl refl) }
answer_meek state (Input priority word) given = by_meek {A = Bool} state (λ shown. reply_asking state (input_reply state.policy.frontend shown) (prepared_if shown state.asking word)) (for_question word (is_to_be_shown state priority)) (λ shown. input_meek state.policy.frontend state shown (prepared_if shown state.asking word))
answer_meek state BeginBlock given = record { store = inl refl; asking = inl refl }
answer_meek state EndBlock given = record { store = inl refl; asking = inl refl }
answer_meek state Go given = going_meek state.policy.frontend state given.asked
answer_meek state Clear given = record { store = inl refl; asking = inr (_, refl, inl refl) }
answer_meek state Stop given = record { store = inl refl; asking = inl refl }
answer_meek state XSave given = record { store = inl refl; asking = inl refl }
answer_meek state (Get word) given = says_meek state [] _ _
answer_meek state (Set word text) given = does_meek state _ _
answer_meek state (Reset word) given = does_meek state _ _
answer_meek state (Subst word key text) given = does_meek state _ _
answer_meek state (Fget word key) given = says_meek state [] _ _
answer_meek state (Fset word key text) given = fset_meek state word key text given (is_truth text) refl
answer_meek state (Metaget word field) given = says_meek state field _ _
answer_meek state (Register template name) given = does_meek state _ _
answer_meek state (Unregister word) given = by_meek {A = List ℕ} state (λ name. unless_busy state (name ∷ []) (reply_write state (reply 0 []) (unregistered state.store state.at name state.owner))) (for_question word (there state)) (λ name. busy_meek state (first_busy state.asking (name ∷ [])) (reply_write state (reply 0 []) (unregistered state.store state.at name state.owner)) (does_meek state [] (unregistered state.store state.at name state.owner)))
answer_meek state Purge given = busy_meek state (first_busy state.asking (owned state.store.layers state.at.config state.owner)) (reply_write state (reply 0 []) (purged state.store state.at state.owner)) (does_meek state [] (purged state.store state.at state.owner))
answer_meek state (ProgressStart low high word) given = by_meek {A = List ℕ} state (λ name. reply_asking state (reply 0 (codes "OK")) (with_bar state.asking (Some (record { min = low; max = high; place = low })))) (for_question word (there state)) (λ name. record { store = inl refl; asking = inr (_, refl, inl refl) })
answer_meek state (ProgressSet number) given = bar_meek state state.asking.bar (λ bar. reply_asking state (reply 0 (codes "OK")) (with_bar state.asking (Some (bar_at bar number)))) (reply_only state no_progress_bar) (λ bar. record { store = inl refl; asking = inr (_, refl, inl refl) }) (record { store = inl refl; asking = inl refl })
answer_meek state (ProgressStep number) given = bar_meek state state.asking.bar (λ bar. reply_asking state (reply 0 (codes "OK")) (with_bar state.asking (Some (bar_at bar (bar.place + number))))) (reply_only state no_progress_bar) (λ bar. record { store = inl refl; asking = inr (_, refl, inl refl) }) (record { store = inl refl; asking = inl refl })
answer_meek state (ProgressInfo word) given = bar_meek state state.asking.bar (λ bar. and_then {A = List ℕ} state (λ name. reply_only state (reply 0 (codes "OK"))) (for_question word (there state))) (reply_only state no_progress_bar) (λ bar. by_meek {A = List ℕ} state (λ name. reply_only state (reply 0 (codes "OK"))) (for_question word (there state)) (λ name. record { store = inl refl; asking = inl refl })) (record { store = inl refl; asking = inl refl })
answer_meek state ProgressStop given = bar_meek state state.asking.bar (λ bar. reply_asking state (reply 0 (codes "OK")) (with_bar state.asking None)) (reply_only state no_progress_bar) (λ bar. record { store = inl refl; asking = inr (_, refl, inl refl) }) (record { store = inl refl; asking = inl refl })
answer_meek state (LoadTemplateFile path owner) given = loading_meek state (unwrap_or owner state.owner) given.found

-- ---- lines

-- a step that is replied to by a code: the store changes with code 0 alone, and what is asked for with 0 or 30
pub record IsMeekAt (old new : SessionState) (r : Reply) : Type 0 where
  pub store : (r.code ≡ 0 → ⊥) → new.store ≡ old.store
  pub asking : (r.code ≡ 0 → ⊥) → (r.code ≡ 30 → ⊥) → new.asking ≡ old.asking
  pub err : new.err ≡ old.err
  pub at : new.at ≡ old.at
  pub owner : new.owner ≡ old.owner
  pub policy : new.policy ≡ old.policy

kept_meek : (old new : SessionState) (r : Reply) → new ≡ old → IsMeekAt old new r
kept_meek old new r same = record {
  store = λ _. ap (λ (s : SessionState). s.store) same;
  asking = λ _ _. ap (λ (s : SessionState). s.asking) same;
  err = ap (λ (s : SessionState). s.err) same;
  at = ap (λ (s : SessionState). s.at) same;
  owner = ap (λ (s : SessionState). s.owner) same;
  policy = ap (λ (s : SessionState). s.policy) same;
}

module _ (old new : SessionState) (r : Reply) where
  one_reply : (other : Reply) → Replied r ≡ Replied other → r ≡ other
  one_reply other same = cc

  command_meek : (command : Command) → HasDone command old (Replied r) new → IsMeekAt old new r
  command_meek command done = record {
    store = λ other. elim (answer_meek old command done.given).store [
      | inl same ↦ ap (λ (s : SessionState). s.store) done.new_is ∙ same
      | inr zero ↦ absurd (other (ap (λ (x : Reply). x.code) (one_reply zero.0 (done.stepped_is ∙ zero.1)) ∙ zero.2))
    ];
    asking = λ other skipped. elim (answer_meek old command done.given).asking [
      | inl same ↦ ap (λ (s : SessionState). s.asking) done.new_is ∙ same
      | inr (r2, is, inl zero) ↦ absurd (other (ap (λ (x : Reply). x.code) (one_reply r2 (done.stepped_is ∙ is)) ∙ zero))
      | inr (r2, is, inr thirty) ↦ absurd (skipped (ap (λ (x : Reply). x.code) (one_reply r2 (done.stepped_is ∙ is)) ∙ thirty))
    ];
    err = ap (λ (s : SessionState). s.err) done.new_is;
    at = ap (λ (s : SessionState). s.at) done.new_is;
    owner = ap (λ (s : SessionState). s.owner) done.new_is;
    policy = ap (λ (s : SessionState). s.policy) done.new_is;
  }

  said_meek : (said : Heard) → StepsHeard said old (Replied r) new → IsMeekAt old new r
  said_meek Nothing steps = kept_meek old new r steps.1
  said_meek (Known command) steps = command_meek command steps
  said_meek (Refused refusal) steps = kept_meek old new r steps.1

  pub line_meek : (line : Line) → Steps old line (Replied r) new → IsMeekAt old new r
  line_meek TooLong steps = kept_meek old new r steps.1
  line_meek (Whole line) steps = said_meek (heard old.asking.escape line) steps
