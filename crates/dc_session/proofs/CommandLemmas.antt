-- What each command comes to.
use Rattle.std.proofs.Common.{◌≡◌, ℕ, List, [], ◌∷◌, refl, sym, ap, subst, ◌∙◌, inl, inr, arith}
use Rattle.std.specs.Option.{option_map_or}
use Rattle.std.specs.Prelude.{Bool, true, false, Option, Some, None, is_some, Result, Ok, Err, IfOk, map as each, unwrap_or, codes, if◌then◌else◌}
use Rattle.std.specs.Str.{bytes_eq}
use Rattle.dc_text.specs.declared.memory.OutOfMemory.{OutOfMemory}
use Rattle.dc_text.specs.Bytes.{lower}
use Rattle.dc_text.specs.Names.{is_name, is_field_key}
use Rattle.dc_item.specs.Item.{ItemParts}
use Rattle.dc_frontend.specs.declared.frontend.Frontend.{Frontend}
use Rattle.dc_frontend.specs.declared.frontend.Frontend.TheVariants.{Noninteractive, Teletype, Passthrough}
use Rattle.dc_proto.specs.Replies.{reply}
use Rattle.dc_proto.specs.declared.command.Command.{Command}
use Rattle.dc_proto.specs.declared.command.Command.TheVariants as command
use Rattle.dc_proto.specs.declared.priority.Priority.{Priority}
use Rattle.dc_proto.specs.declared.reply.Reply.{Reply}
use Rattle.dc_store.specs.Plans.{StoreState, owned}
use Rattle.dc_store.specs.Batches.{names_of}
use Rattle.dc_store.specs.StoreLaws.{AreSameBut, AreSameButAll}
use Rattle.dc_store.proofs.RowLemmas.{same_all}
use Rattle.dc_teletype.specs.declared.teletype.Asked.TheVariants.{Answers}
use Rattle.dc_template.specs.Stanzas.{Stanza}
use Rattle.dc_question.specs.Changes.{Does as DoesChange, value_set, value_reset, variable_set, flag_set}
use Rattle.dc_question.specs.Ownership.{unregistered, registered, purged, loaded, leave_batch, load_batch}
use Rattle.dc_question.specs.Questions.{QuestionContext, question, exists, template, read, read_template, read_field, value, flag, expanded_field, Answers as AnswersOf}
use Rattle.dc_question.specs.Readings.{field_of}
use Rattle.dc_question.specs.declared.errors.QuestionError.{QuestionError}
use Rattle.dc_question.specs.declared.errors.QuestionError.TheVariants as error
use Rattle.dc_session.specs.SessionState.{FilesState, SessionState}
use Rattle.dc_session.specs.Asking.{is_among, description}
use Rattle.dc_session.specs.Answers.{CommandOutcome, nothing, answer, names_on, reply_only, and_then, unless_busy, there, reply_write, reply_read, for_question, text_reply, field_read, is_truth, truth, loading, load_names}
use Rattle.dc_session.specs.Inside.{Tells, Comes, ReadsField}
use Rattle.dc_session.specs.Displays.{Display, Blank, displayed, described, where_asked, line_read, Shows}
use Rattle.dc_session.specs.Machine.{Gives, Looks, HasDone, Does, file_of}
use Rattle.dc_session.specs.Refusals.{is_busy, no_question, no_field, bad_flag_value, read_fault, no_template_file, bad_template_file}
use Rattle.dc_session.specs.declared.stepped.Stepped.{Stepped}
use Rattle.dc_session.specs.declared.stepped.Stepped.TheVariants.{Replied, Save, Stopped}
use Rattle.dc_session.specs.TemplateFiles.{Finds, FindsNoMemory}
use Rattle.dc_session.specs.declared.template_files.Found.{Found}
use Rattle.dc_session.specs.declared.template_files.Found.TheVariants.{Unreadable, Missing, Faulty, Templates}
use Rattle.dc_session.proofs.CallLemmas.{wrote, unwritten, comes_does}
use Rattle.dc_session.proofs.CallLemmas.{read as read_comes}

-- what a word names that is a name, and what one says that is none
pub on_name : {A : Type 0} (word : List ℕ) (call : List ℕ → Result A QuestionError) → is_name word ≡ true → for_question word call ≡ call word
on_name word call is = rw is refl

pub on_none : {A : Type 0} (word : List ℕ) (call : List ℕ → Result A QuestionError) → is_name word ≡ false → for_question word call ≡ Err (error.NoQuestion word)
on_none word call is = rw is refl

-- ---- a question that is there, or isn't

module _ (old : SessionState) (word name : List ℕ) (named : (name ≡ word) × (is_name word ≡ true)) (outcome : List ℕ → CommandOutcome) where
  on_there : for_question word (there old) ≡ there old name
  on_there = on_name word (there old) named.1 ∙ ap (there old) (sym named.0)

  by_found : (found : Option ItemParts) → is_some found ≡ true → and_then old outcome (read name found (λ i. Ok name)) ≡ outcome name
  by_found None is = cc
  by_found (Some item) is = refl

  by_none : (found : Option ItemParts) → is_some found ≡ false → and_then old outcome (read name found (λ i. Ok name)) ≡ reply_only old (no_question name)
  by_none None is = refl
  by_none (Some item) is = cc

  pub there_found : exists old.store.layers old.at name ≡ true → and_then old outcome (for_question word (there old)) ≡ outcome name
  there_found is = ap (and_then old outcome) on_there ∙ by_found (question old.store.layers old.at name) is

  pub there_none : exists old.store.layers old.at name ≡ false → and_then old outcome (for_question word (there old)) ≡ reply_only old (no_question name)
  there_none is = ap (and_then old outcome) on_there ∙ by_none (question old.store.layers old.at name) is

-- a read leaves the store
pub says_stays : {A : Type 0} (state : SessionState) (field : List ℕ) (reply : A → Reply) (reading : Result A QuestionError) → (reply_read state field reply reading).store ≡ state.store
says_stays state field reply (Ok answer) = refl
says_stays state field reply (Err error) = refl

pub says_keeps_asking : {A : Type 0} (state : SessionState) (field : List ℕ) (reply : A → Reply) (reading : Result A QuestionError) → (reply_read state field reply reading).asking ≡ state.asking
says_keeps_asking state field reply (Ok answer) = refl
says_keeps_asking state field reply (Err error) = refl

-- a command that looks at no file and shows nothing is given nothing
pub quiet : (command : Command) (old : SessionState) → file_of command ≡ None → displayed old command ≡ Blank → Gives command old nothing old.files old.terminal
quiet command old none blank = record {
  looks = subst (λ (path : Option (List ℕ)). Looks path old.files Missing old.files) (sym none) (refl, refl);
  shows = subst (λ (display : Display). Shows old.asking display old.terminal (Ok (Answers [])) old.terminal) (sym blank) (refl, refl);
}

module _ (command : Command) (old new : SessionState) (gives : Gives command old nothing old.files old.terminal) where
  pub stored_does : (outcome : CommandOutcome) → answer old command nothing ≡ outcome → (result : Result Stepped OutOfMemory) → Comes outcome (names_on old command nothing) old new result → Does command old new result
  stored_does outcome is result comes = comes_does command nothing old new old.files old.terminal outcome (names_on old command nothing) result gives (sym is) refl comes

-- STOP
pub stops : (old : SessionState) → HasDone command.Stop old Stopped old
stops old = record { given = nothing; gives = quiet command.Stop old refl refl; stepped_is = refl; new_is = refl }

-- X_SAVE
pub asks_to_save : (old : SessionState) → HasDone command.XSave old Save old
asks_to_save old = record { given = nothing; gives = quiet command.XSave old refl refl; stepped_is = refl; new_is = refl }

-- ---- commands that write

module _ (old : SessionState) (store : StoreState) (at : QuestionContext) (at_is : at ≡ old.at) where
  module _ (command : Command) (gives : Gives command old nothing old.files old.terminal) (r : Reply) (batch : Result StoreState QuestionError) (is : answer old command nothing ≡ reply_write old r batch)
      (others : AreSameButAll (names_on old command nothing) old.store.layers store.layers) where
    pub write_does : (call : Result (Unit {0}) QuestionError) → DoesChange call batch old.store store → (result : Result Stepped OutOfMemory) → Tells [] (λ _. r) call result
        → Does command old (record old { store = store; at = at }) result
    write_does call left result told =
        stored_does command old (record old { store = store; at = at }) gives (reply_write old r batch) is result
        (wrote (names_on old command nothing) old (record old { store = store; at = at }) r batch (λ i. record old { store = store; at = at_is i }) others call left result told)

  module _ (word name : List ℕ) (named : (name ≡ word) × (is_name word ≡ true)) where
    -- a change of one question
    one_does : (command : Command) → Gives command old nothing old.files old.terminal → (r : Reply) (batch : List ℕ → Result StoreState QuestionError) → answer old command nothing ≡ reply_write old r (for_question word batch)
        → names_on old command nothing ≡ word ∷ [] → AreSameBut name old.store.layers store.layers → (call : Result (Unit {0}) QuestionError) → DoesChange call (batch name) old.store store
        → (result : Result Stepped OutOfMemory) → Tells [] (λ _. r) call result → Does command old (record old { store = store; at = at }) result
    one_does command gives r batch is names others call left result told =
        write_does command gives r (batch name) (is ∙ ap (reply_write old r) (on_name word batch named.1 ∙ ap batch (sym named.0)))
        (subst (λ (ns : List (List ℕ)). AreSameButAll ns old.store.layers store.layers) (sym names) (same_all (word ∷ []) name old.store.layers store.layers (0, omega arith, sym named.0) others))
        call left result told

    pub set_does : (value : List ℕ) → AreSameBut name old.store.layers store.layers → (call : Result (Unit {0}) QuestionError) → DoesChange call (value_set old.store old.at name value) old.store store
        → (result : Result Stepped OutOfMemory) → Tells [] (λ _. reply 0 (codes "value set")) call result → Does (command.Set word value) old (record old { store = store; at = at }) result
    set_does value = one_does (command.Set word value) (quiet (command.Set word value) old refl refl) (reply 0 (codes "value set")) (λ n. value_set old.store old.at n value) refl refl

    pub reset_does : AreSameBut name old.store.layers store.layers → (call : Result (Unit {0}) QuestionError) → DoesChange call (value_reset old.store old.at name) old.store store
        → (result : Result Stepped OutOfMemory) → Tells [] (λ _. reply 0 []) call result → Does (command.Reset word) old (record old { store = store; at = at }) result
    reset_does = one_does (command.Reset word) (quiet (command.Reset word) old refl refl) (reply 0 []) (λ n. value_reset old.store old.at n) refl refl

    pub subst_does : (key value : List ℕ) → AreSameBut name old.store.layers store.layers → (call : Result (Unit {0}) QuestionError) → DoesChange call (variable_set old.store old.at name key value) old.store store
        → (result : Result Stepped OutOfMemory) → Tells [] (λ _. reply 0 []) call result → Does (command.Subst word key value) old (record old { store = store; at = at }) result
    subst_does key value = one_does (command.Subst word key value) (quiet (command.Subst word key value) old refl refl) (reply 0 []) (λ n. variable_set old.store old.at n key value) refl refl

    pub fset_does : (key value : List ℕ) → is_truth value ≡ true → AreSameBut name old.store.layers store.layers → (call : Result (Unit {0}) QuestionError)
        → DoesChange call (flag_set old.store old.at name key (bytes_eq value (codes "true"))) old.store store → (result : Result Stepped OutOfMemory) → Tells [] (λ _. reply 0 value) call result
        → Does (command.Fset word key value) old (record old { store = store; at = at }) result
    fset_does key value truth =
        one_does (command.Fset word key value) (quiet (command.Fset word key value) old refl refl) (reply 0 value) (λ n. flag_set old.store old.at n key (bytes_eq value (codes "true"))) (rw truth refl) refl

    -- what an unregistered question comes to, that is there and isn't prepared
    unregister_is : exists old.store.layers old.at name ≡ true → is_among old.asking.prepared name ≡ false → answer old (command.Unregister word) nothing ≡ reply_write old (reply 0 []) (unregistered old.store old.at name old.owner)
    unregister_is item free =
        there_found old word name named (λ n. unless_busy old (n ∷ []) (reply_write old (reply 0 []) (unregistered old.store old.at n old.owner))) item
        ∙ ap (λ (b : Bool). option_map_or (λ n. reply_only old (is_busy n)) (if b then Some name else None) (reply_write old (reply 0 []) (unregistered old.store old.at name old.owner))) free

    pub unregister_does : exists old.store.layers old.at name ≡ true → is_among old.asking.prepared name ≡ false
        → AreSameButAll (names_of (leave_batch old.store.layers old.at old.owner (name ∷ []))) old.store.layers store.layers → (call : Result (Unit {0}) QuestionError)
        → DoesChange call (unregistered old.store old.at name old.owner) old.store store → (result : Result Stepped OutOfMemory) → Tells [] (λ _. reply 0 []) call result
        → Does (command.Unregister word) old (record old { store = store; at = at }) result
    unregister_does item free others =
        write_does (command.Unregister word) (quiet (command.Unregister word) old refl refl) (reply 0 []) (unregistered old.store old.at name old.owner) (unregister_is item free)
        (subst (λ (n : List ℕ). AreSameButAll (names_of (leave_batch old.store.layers old.at old.owner (n ∷ []))) old.store.layers store.layers) named.0 others)

  pub register_does : (template name : List ℕ) → AreSameButAll (template ∷ name ∷ []) old.store.layers store.layers → (call : Result (Unit {0}) QuestionError)
      → DoesChange call (registered old.store old.at template name old.owner) old.store store → (result : Result Stepped OutOfMemory) → Tells [] (λ _. reply 0 []) call result
      → Does (command.Register template name) old (record old { store = store; at = at }) result
  register_does template name = write_does (command.Register template name) (quiet (command.Register template name) old refl refl) (reply 0 []) (registered old.store old.at template name old.owner) refl

  -- the same, where the name of the template is given as bytes
  pub register_does_by : (template bytes name : List ℕ) → bytes ≡ template → AreSameButAll (bytes ∷ name ∷ []) old.store.layers store.layers → (call : Result (Unit {0}) QuestionError)
      → DoesChange call (registered old.store old.at bytes name old.owner) old.store store → (result : Result Stepped OutOfMemory) → Tells [] (λ _. reply 0 []) call result
      → Does (command.Register template name) old (record old { store = store; at = at }) result
  register_does_by template bytes name same others call left result told =
      register_does template name (subst (λ (b : List ℕ). AreSameButAll (b ∷ name ∷ []) old.store.layers store.layers) same others) call
      (subst (λ (b : List ℕ). DoesChange call (registered old.store old.at b name old.owner) old.store store) same left) result told

  pub purge_comes : AreSameButAll (names_of (leave_batch old.store.layers old.at old.owner (owned old.store.layers old.at.config old.owner))) old.store.layers store.layers → (call : Result (Unit {0}) QuestionError)
      → DoesChange call (purged old.store old.at old.owner) old.store store → (result : Result Stepped OutOfMemory) → Tells [] (λ _. reply 0 []) call result
      → Comes (reply_write old (reply 0 []) (purged old.store old.at old.owner)) (names_on old command.Purge nothing) old (record old { store = store; at = at }) result
  purge_comes others call left result told =
      wrote (names_on old command.Purge nothing) old (record old { store = store; at = at }) (reply 0 []) (purged old.store old.at old.owner) (λ i. record old { store = store; at = at_is i }) others call left result told

-- ---- commands that read

-- nothing is shown in any manner of asking
pub where_blank : (frontend : Frontend) → where_asked frontend Blank ≡ Blank
where_blank Noninteractive = refl
where_blank Teletype = refl
where_blank Passthrough = refl

module _ (old : SessionState) where
  -- a word that is no name
  none_does : (command : Command) → Gives command old nothing old.files old.terminal → (word : List ℕ) → answer old command nothing ≡ reply_only old (no_question word)
      → (result : Result Stepped OutOfMemory) → IfOk result (λ did. did ≡ Replied (no_question word)) → Does command old old result
  none_does command gives word is result told =
      stored_does command old old gives (reply_only old (no_question word)) is result
      (unwritten (names_on old command nothing) old (reply_only old (no_question word)) refl refl result told)

  -- a word that is no name describes nothing
  none_described : (word : List ℕ) → is_name word ≡ false → where_asked old.policy.frontend (described old word) ≡ Blank
  none_described word none = ap (λ (r : Result (List ℕ) QuestionError). where_asked old.policy.frontend (line_read r)) (on_none word (description old.store.layers old.at) none) ∙ where_blank old.policy.frontend

  module _ (word : List ℕ) (none : is_name word ≡ false) (result : Result Stepped OutOfMemory) (told : IfOk result (λ did. did ≡ Replied (no_question word))) where
    pub get_none : Does (command.Get word) old old result
    get_none = none_does (command.Get word) (quiet (command.Get word) old refl refl) word (rw none refl) result told

    pub set_none : (value : List ℕ) → Does (command.Set word value) old old result
    set_none value = none_does (command.Set word value) (quiet (command.Set word value) old refl refl) word (rw none refl) result told

    pub reset_none : Does (command.Reset word) old old result
    reset_none = none_does (command.Reset word) (quiet (command.Reset word) old refl refl) word (rw none refl) result told

    pub subst_none : (key value : List ℕ) → Does (command.Subst word key value) old old result
    subst_none key value = none_does (command.Subst word key value) (quiet (command.Subst word key value) old refl refl) word (rw none refl) result told

    pub fget_none : (key : List ℕ) → Does (command.Fget word key) old old result
    fget_none key = none_does (command.Fget word key) (quiet (command.Fget word key) old refl refl) word (rw none refl) result told

    fset_said : (key value : List ℕ) (b : Bool) → is_truth value ≡ b → answer old (command.Fset word key value) nothing ≡ reply_only old (no_question word)
    fset_said key value true is = rw (is, none) refl
    fset_said key value false is = rw (is, none) refl

    pub fset_none : (key value : List ℕ) → Does (command.Fset word key value) old old result
    fset_none key value = none_does (command.Fset word key value) (quiet (command.Fset word key value) old refl refl) word (fset_said key value (is_truth value) refl) result told

    pub metaget_none : (field : List ℕ) → Does (command.Metaget word field) old old result
    metaget_none field = none_does (command.Metaget word field) (quiet (command.Metaget word field) old refl refl) word (rw none refl) result told

    pub progress_start_none : (low high : ℕ) → Does (command.ProgressStart low high word) old old result
    progress_start_none low high = none_does (command.ProgressStart low high word) (quiet (command.ProgressStart low high word) old refl (none_described word none)) word (rw none refl) result told

    pub set_title_none : Does (command.SetTitle word) old old result
    set_title_none = none_does (command.SetTitle word) (quiet (command.SetTitle word) old refl refl) word (rw none refl) result told

    pub input_none : (priority : Priority) → Does (command.Input priority word) old old result
    input_none priority = none_does (command.Input priority word) (quiet (command.Input priority word) old refl refl) word (rw none refl) result told

    pub unregister_none : Does (command.Unregister word) old old result
    unregister_none = none_does (command.Unregister word) (quiet (command.Unregister word) old refl refl) word (rw none refl) result told

  module _ (word name : List ℕ) (named : (name ≡ word) × (is_name word ≡ true)) where
    -- a read of one question
    read_does : {A : Type 0} (command : Command) → Gives command old nothing old.files old.terminal → (field : List ℕ) (reply : A → Reply) (reading : List ℕ → Result A QuestionError)
        → answer old command nothing ≡ reply_read old field reply (for_question word reading) → (call : Result A QuestionError) → AnswersOf call (reading name)
        → (result : Result Stepped OutOfMemory) → Tells field reply call result → Does command old old result
    read_does command gives field reply reading is call answers result told =
        stored_does command old old gives (reply_read old field reply (reading name)) (is ∙ ap (reply_read old field reply) (on_name word reading named.1 ∙ ap reading (sym named.0))) result
        (read_comes (names_on old command nothing) old field reply (reading name) call answers result told)

    pub get_does : (call : Result (List ℕ) QuestionError) → AnswersOf call (value old.store.layers old.at name) → (result : Result Stepped OutOfMemory) → Tells [] (text_reply old) call result
        → Does (command.Get word) old old result
    get_does = read_does (command.Get word) (quiet (command.Get word) old refl refl) [] (text_reply old) (value old.store.layers old.at) refl

    pub fget_does : (key : List ℕ) (call : Result Bool QuestionError) → AnswersOf call (flag old.store.layers old.at name key) → (result : Result Stepped OutOfMemory)
        → Tells [] (λ is. reply 0 (truth is)) call result → Does (command.Fget word key) old old result
    fget_does key = read_does (command.Fget word key) (quiet (command.Fget word key) old refl refl) [] (λ is. reply 0 (truth is)) (λ n. flag old.store.layers old.at n key) refl

    pub bad_flag_does : (key value : List ℕ) → is_truth value ≡ false → (call : Result Bool QuestionError) → AnswersOf call (flag old.store.layers old.at name key) → (result : Result Stepped OutOfMemory)
        → Tells [] (λ is. bad_flag_value) call result → Does (command.Fset word key value) old old result
    bad_flag_does key value other = read_does (command.Fset word key value) (quiet (command.Fset word key value) old refl refl) [] (λ is. bad_flag_value) (λ n. flag old.store.layers old.at n key) (rw other refl)

    pub metaget_does : (field : List ℕ) (result : Result Stepped OutOfMemory) → ReadsField old field name result → Does (command.Metaget word field) old old result
    metaget_does field (Ok did) shown =
        stored_does (command.Metaget word field) old old (quiet (command.Metaget word field) old refl refl) (reply_read old field (text_reply old) (field_read old field name))
        (ap (reply_read old field (text_reply old)) (on_name word (field_read old field) named.1 ∙ ap (field_read old field) (sym named.0))) (Ok did)
        (unwritten [] old (reply_read old field (text_reply old) (field_read old field name)) (says_stays old field (text_reply old) (field_read old field name)) (says_keeps_asking old field (text_reply old) (field_read old field name)) (Ok did) shown.told_is)
    metaget_does field (Err memory) shown = inl refl

-- ---- a template file is loaded

module _ (old : SessionState) (files : FilesState) (path : List ℕ) (owner : Option (List ℕ)) where
  same_loading : (and_then : List ℕ) (found : Found) → loading (record old { files = files }) and_then found ≡ loading old and_then found
  same_loading and_then Unreadable = refl
  same_loading and_then Missing = refl
  same_loading and_then (Faulty line) = refl
  same_loading and_then (Templates templates) = refl

  same_names : (and_then : List ℕ) (found : Found) → load_names (record old { files = files }) and_then found ≡ load_names old and_then found
  same_names and_then Unreadable = refl
  same_names and_then Missing = refl
  same_names and_then (Faulty line) = refl
  same_names and_then (Templates templates) = refl

  pub load_does : (and_then : List ℕ) → and_then ≡ unwrap_or owner old.owner → (found : Found) → Finds path old.files found files → (new : SessionState) (result : Result Stepped OutOfMemory)
      → Comes (loading (record old { files = files }) and_then found) (load_names (record old { files = files }) and_then found) (record old { files = files }) new result
      → Does (command.LoadTemplateFile path owner) old new result
  load_does and_then is found finds new result comes =
      comes_does (command.LoadTemplateFile path owner) (record { found = found; asked = Answers [] }) old new files old.terminal (loading (record old { files = files }) and_then found) (load_names (record old { files = files }) and_then found) result
      (record { looks = finds; shows = (refl, refl) })
      (same_loading and_then found ∙ ap (λ (o : List ℕ). loading old o found) is) (same_names and_then found ∙ ap (λ (o : List ℕ). load_names old o found) is) comes

-- ---- a field is read

module _ (old : SessionState) (field name : List ℕ) where
  told_read : {A : Type 0} (r : A → Reply) (reading : Result A QuestionError) (call : Result A QuestionError) → AnswersOf call reading → (result : Result Stepped OutOfMemory) → Tells field r call result
      → IfOk result (λ did. did ≡ (reply_read old field r reading).stepped)
  told_read r reading call answers (Ok did) told = (read_comes [] old field r reading call answers (Ok did) told).0
  told_read r reading call answers (Err memory) told = tt

  reads : (result : Result Stepped OutOfMemory) → IfOk result (λ did. did ≡ (reply_read old field (text_reply old) (field_read old field name)).stepped) → ReadsField old field name result
  reads result is = record { told_is = is }

  pub key_reads : (key : List ℕ) → key ≡ each lower field → is_field_key (each lower field) ≡ true → (call : Result (List ℕ) QuestionError) → AnswersOf call (expanded_field old.store.layers old.at name key)
      → (result : Result Stepped OutOfMemory) → Tells field (text_reply old) call result → ReadsField old field name result
  key_reads key key_is is call answers result told =
      let here : expanded_field old.store.layers old.at name key ≡ field_read old field name = ap (expanded_field old.store.layers old.at name) key_is ∙ (rw is refl) in
      reads result (subst (λ (reading : Result (List ℕ) QuestionError). IfOk result (λ did. did ≡ (reply_read old field (text_reply old) reading).stepped)) here (told_read (text_reply old) _ call answers result told))

  -- what a field that is none says, from what one that is a key says
  none_read : (key : List ℕ) (question : Option ItemParts)
      → (reply_read old field (λ (text : List ℕ). no_field field) (read name question (λ item. read_template name (template old.store.layers old.at item) (λ t. read_field (field_of old.at.lang item t key))))).stepped
      ≡ (reply_read {A = List ℕ} old field (text_reply old) (read name question (λ item. read_template name (template old.store.layers old.at item) (λ t. Err error.NoField)))).stepped
  none_read key None = refl
  none_read key (Some item) = of_template (template old.store.layers old.at item) where
    of_field : (found : Option (List ℕ)) → (reply_read old field (λ (text : List ℕ). no_field field) (read_field found)).stepped ≡ Replied (no_field field)
    of_field None = refl
    of_field (Some text) = refl

    of_template : (found : Option ItemParts) → (reply_read old field (λ (text : List ℕ). no_field field) (read_template name found (λ t. read_field (field_of old.at.lang item t key)))).stepped
        ≡ (reply_read {A = List ℕ} old field (text_reply old) (read_template name found (λ t. Err error.NoField))).stepped
    of_template None = refl
    of_template (Some t) = of_field (field_of old.at.lang item t key)

  none_is : is_field_key (each lower field) ≡ false → field_read old field name ≡ read name (question old.store.layers old.at name) (λ item. read_template name (template old.store.layers old.at item) (λ t. Err error.NoField))
  none_is is = rw is refl

  pub no_key_reads : (key : List ℕ) → is_field_key (each lower field) ≡ false → (call : Result (List ℕ) QuestionError) → AnswersOf call (expanded_field old.store.layers old.at name key)
      → (result : Result Stepped OutOfMemory) → Tells field (λ text. no_field field) call result → ReadsField old field name result
  no_key_reads key is call answers result told =
      reads result
      (subst (λ (r : Stepped). IfOk result (λ did. did ≡ r)) (none_read key (question old.store.layers old.at name) ∙ ap (λ (reading : Result (List ℕ) QuestionError). (reply_read old field (text_reply old) reading).stepped) (sym (none_is is)))
      (told_read (λ text. no_field field) (expanded_field old.store.layers old.at name key) call answers result told))

-- ---- what was found is loaded

module _ (old : SessionState) (and_then : List ℕ) where
  pub templates_load : (store : StoreState) (at : QuestionContext) → at ≡ old.at → (templates : List Stanza) → AreSameButAll (names_of (load_batch old.store.layers old.at and_then templates)) old.store.layers store.layers
      → (call : Result (Unit {0}) QuestionError) → DoesChange call (loaded old.store old.at and_then templates) old.store store → (result : Result Stepped OutOfMemory) → Tells [] (λ _. reply 0 []) call result
      → Comes (loading old and_then (Templates templates)) (load_names old and_then (Templates templates)) old (record old { store = store; at = at }) result
  templates_load store at at_is templates =
      wrote (names_of (load_batch old.store.layers old.at and_then templates)) old (record old { store = store; at = at }) (reply 0 []) (loaded old.store old.at and_then templates) (λ i. record old { store = store; at = at_is i })

  pub unreadable_loads : (result : Result Stepped OutOfMemory) → IfOk result (λ did. did ≡ Replied read_fault) → Comes (loading old and_then Unreadable) (load_names old and_then Unreadable) old old result
  unreadable_loads = unwritten [] old (reply_only old read_fault) refl refl

  pub missing_loads : (result : Result Stepped OutOfMemory) → IfOk result (λ did. did ≡ Replied no_template_file) → Comes (loading old and_then Missing) (load_names old and_then Missing) old old result
  missing_loads = unwritten [] old (reply_only old no_template_file) refl refl

  pub faulty_loads : (line : ℕ) (result : Result Stepped OutOfMemory) → IfOk result (λ did. did ≡ Replied (bad_template_file line)) → Comes (loading old and_then (Faulty line)) (load_names old and_then (Faulty line)) old old result
  faulty_loads line = unwritten [] old (reply_only old (bad_template_file line)) refl refl

-- memory ran out where the file was looked for
pub none_loads : (old : SessionState) (files : FilesState) (path : List ℕ) (owner : Option (List ℕ)) (error : OutOfMemory) → FindsNoMemory path old.files files
    → Does (command.LoadTemplateFile path owner) old (record old { files = files }) (Err error)
none_loads old files path owner error none = inr record { part = inl record { store = refl; gives = inl (none, refl) }; err = refl; at = refl; owner = refl; policy = refl }
