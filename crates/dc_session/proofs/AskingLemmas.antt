-- What becomes of commands that ask, and of those on the progress bar.
use Rattle.std.proofs.Common.{◌≡◌, ℕ, ◌+◌, ◌<◌, List, [], ◌∷◌, ◌++◌, take, get_or, length, refl, sym, ap, subst, ◌∙◌}
use Rattle.std.proofs.lemmas.List.{take_more}
use Rattle.std.proofs.lemmas.List.Elements.{filter-append}
use Rattle.std.proofs.lemmas.List.Sums.{fold-append}
use Rattle.std.specs.Prelude.{Bool, true, false, if◌then◌else◌, Option, Some, None, Result, Ok, Err, IfOk, map as each, ◌≢◌, filter, fold, option_map, option_and_then, codes}
use Rattle.std.specs.List.{filter_map, cons_option, AllByRecursion}
use Rattle.dc_text.specs.declared.memory.OutOfMemory.{OutOfMemory}
use Rattle.dc_text.specs.Maps.{AreDistinct}
use Rattle.dc_text.specs.Names.{is_name}
use Rattle.std.specs.Option.{option_map_or}
use Rattle.dc_frontend.specs.Settling.{settled_choice}
use Rattle.dc_frontend.specs.declared.frontend.Frontend.{Frontend}
use Rattle.dc_frontend.specs.declared.frontend.Frontend.TheVariants.{Noninteractive}
use Rattle.dc_teletype.specs.declared.teletype.Asked.TheVariants.{Answers}
use Rattle.dc_layer.specs.State.{LayerState}
use Rattle.dc_proto.specs.Replies.{reply}
use Rattle.dc_proto.specs.declared.command.Command.{Command}
use Rattle.dc_proto.specs.declared.command.Command.TheVariants as command
use Rattle.dc_proto.specs.declared.priority.Priority.{Priority}
use Rattle.dc_proto.specs.declared.reply.Reply.{Reply}
use Rattle.dc_store.specs.Plans.{StoreState, owned}
use Rattle.dc_store.specs.StoreLaws.{AreSameBut, AreSameButAll}
use Rattle.dc_store.proofs.RowLemmas.{same_all, same_all_refl, same_all_then}
use Rattle.dc_question.specs.Changes.{Does as DoesChange, values_set}
use Rattle.dc_question.specs.Ownership.{purged, unregistered}
use Rattle.dc_question.specs.Questions.{QuestionContext, Answers as AnswersOf, exists, kind}
use Rattle.dc_question.specs.declared.errors.QuestionError.{QuestionError}
use Rattle.dc_question.specs.declared.errors.QuestionError.TheVariants as error
use Rattle.dc_session.specs.Asking.{choice_for, choices_for, shown, first_fixed, to_show, with_seen, is_among, description, is_to_be_shown, prepared_if, first_busy, skipped}
use Rattle.dc_session.specs.Answers.{CommandOutcome, nothing, answer, names_on, reply_asking, reply_write, titled, capable, capabilities, input_reply, is_supported, unless_busy, and_then, reply_only, gone, going, going_names, for_question}
use Rattle.dc_session.specs.Inside.{TellsRefusal, Comes, ComesAsking}
use Rattle.dc_session.specs.Displays.{Blank, where_asked, dialogue}
use Rattle.dc_session.specs.Machine.{Gives, Does}
use Rattle.dc_session.specs.Refusals.{refusal, is_busy, no_question, version_not_supported}
use Rattle.dc_session.specs.SessionState.{SessionState}
use Rattle.dc_session.specs.declared.asking.Asking.{Asking}
use Rattle.dc_session.specs.declared.stepped.Stepped.{Stepped}
use Rattle.dc_session.specs.declared.stepped.Stepped.TheVariants.{Replied}
use Rattle.dc_session.proofs.CallLemmas.{unwritten, asking_does}
use Rattle.dc_session.proofs.CommandLemmas.{on_name, there_found, there_none, stored_does, quiet}

-- ---- what a command replies, or changes in what is asked for

module _ (old : SessionState) where
  -- a reply and no more
  pub told_comes : (names : List (List ℕ)) (r : Reply) (result : Result Stepped OutOfMemory) → IfOk result (λ did. did ≡ Replied r) → Comes (reply_only old r) names old old result
  told_comes names r result told = unwritten names old (reply_only old r) refl refl result told

  -- what is asked for changes
  pub asked_comes : (names : List (List ℕ)) (r : Reply) (asking : Asking) (did : Stepped) → did ≡ Replied r → Comes (reply_asking old r asking) names old (record old { asking = asking }) (Ok did)
  asked_comes names r asking did is = (is, refl)

  pub unasked_comes : (outcome : CommandOutcome) (names : List (List ℕ)) (error : OutOfMemory) → Comes outcome names old old (Err error)
  unasked_comes outcome names error = (same_all_refl names old.store.layers, refl)

  pub told_does : (command : Command) → Gives command old nothing old.files old.terminal → (r : Reply) → answer old command nothing ≡ reply_only old r → (result : Result Stepped OutOfMemory) → IfOk result (λ did. did ≡ Replied r)
      → Does command old old result
  told_does command gives r is result told = stored_does command old old gives (reply_only old r) is result (told_comes (names_on old command nothing) r result told)

-- a call that is refused
refused_by : {A : Type 0} (old : SessionState) (outcome : A → CommandOutcome) (names : List (List ℕ)) (e : QuestionError) (reading : Result A QuestionError) → AnswersOf (Err e) reading
    → (result : Result Stepped OutOfMemory) → TellsRefusal [] e result → Comes (and_then old outcome reading) names old old result
refused_by old outcome names e reading answers (Err memory) told = (same_all_refl names old.store.layers, refl)
refused_by old outcome names (error.NoQuestion name) reading answers (Ok did) told = rw answers (told, refl)
refused_by old outcome names (error.NoTemplate name) reading answers (Ok did) told = rw answers (told, refl)
refused_by old outcome names error.NoField reading answers (Ok did) told = rw answers (told, refl)
refused_by old outcome names (error.CantChange name) reading answers (Ok did) told = rw answers (told, refl)
refused_by old outcome names (error.Twice name) reading answers (Ok did) told = rw answers (told, refl)
refused_by old outcome names error.OutOfMemory reading answers (Ok did) told = absurd told

-- ---- a command on a question that is read first

module _ (old new : SessionState) (command : Command) (gives : Gives command old nothing old.files old.terminal) (word name : List ℕ) (named : (name ≡ word) × (is_name word ≡ true)) where
  module _ {A : Type 0} (reading : List ℕ → Result A QuestionError) (outcome : A → CommandOutcome) (is : answer old command nothing ≡ and_then old outcome (for_question word reading)) where
    read_is : answer old command nothing ≡ and_then old outcome (reading name)
    read_is = is ∙ ap (and_then old outcome) (on_name word reading named.1 ∙ ap reading (sym named.0))

    -- it was read, and this came of it
    pub read_does : (a : A) → reading name ≡ Ok a → (result : Result Stepped OutOfMemory) → Comes (outcome a) (names_on old command nothing) old new result → Does command old new result
    read_does a answered result comes = stored_does command old new gives (outcome a) (read_is ∙ ap (and_then old outcome) answered) result comes

  -- it isn't read
  pub unread_does : {A : Type 0} (reading : List ℕ → Result A QuestionError) (outcome : A → CommandOutcome) → answer old command nothing ≡ and_then old outcome (for_question word reading) → (e : QuestionError) → AnswersOf (Err e) (reading name)
      → (result : Result Stepped OutOfMemory) → TellsRefusal [] e result → new ≡ old → Does command old new result
  unread_does reading outcome is e answers result told same =
      subst (λ (s : SessionState). Does command old s result) (sym same)
      (stored_does command old old gives (and_then old outcome (reading name)) (read_is reading outcome is) result (refused_by old outcome (names_on old command nothing) e (reading name) answers result told))

-- ---- what a confmodule says of itself

-- TITLE
pub title_does : (old new : SessionState) (text copy : List ℕ) → copy ≡ text → (result : Result Stepped OutOfMemory) → Comes (reply_asking old (reply 0 []) (titled old.asking copy)) [] old new result → Does (command.Title text) old new result
title_does old new text copy same result comes =
    stored_does (command.Title text) old new (quiet (command.Title text) old refl refl) (reply_asking old (reply 0 []) (titled old.asking copy)) (ap (λ (t : List ℕ). reply_asking old (reply 0 []) (titled old.asking t)) (sym same)) result comes

-- VERSION
pub version_does : (old : SessionState) (version : Option (List ℕ)) (b : Bool) → is_supported version ≡ b → (result : Result Stepped OutOfMemory)
    → IfOk result (λ did. did ≡ Replied (if b then reply 0 (codes "2.0") else version_not_supported)) → Does (command.Version version) old old result
version_does old version b is result told =
    told_does old (command.Version version) (quiet (command.Version version) old refl refl) (if b then reply 0 (codes "2.0") else version_not_supported)
    (ap (λ (x : Bool). reply_only old (if x then reply 0 (codes "2.0") else version_not_supported)) is) result told

-- CAPB
pub capb_does : (old : SessionState) (words : List (List ℕ)) (escape backup : Bool) (did : Stepped) → escape ≡ is_among words (codes "escape") → backup ≡ is_among words (codes "backup")
    → did ≡ Replied (reply 0 (capabilities old.policy.frontend)) → Does (command.Capb words) old (record old { asking = record old.asking { escape = escape; backup = backup } }) (Ok did)
capb_does old words escape backup did is_escape is_backup told =
    stored_does (command.Capb words) old (record old { asking = record old.asking { escape = escape; backup = backup } }) (quiet (command.Capb words) old refl refl)
    (reply_asking old (reply 0 (capabilities old.policy.frontend)) (capable old.asking words)) refl (Ok did)
    (told, λ i. record old { asking = record old.asking { escape = is_escape i; backup = is_backup i } })

-- CLEAR
pub clear_does : (old : SessionState) (prepared : List (List ℕ)) → prepared ≡ [] → (did : Stepped) → did ≡ Replied (reply 0 []) → Does command.Clear old (record old { asking = record old.asking { prepared = prepared } }) (Ok did)
clear_does old prepared none did told =
    stored_does command.Clear old (record old { asking = record old.asking { prepared = prepared } }) (quiet command.Clear old refl refl) (reply_asking old (reply 0 []) (record old.asking { prepared = [] })) refl (Ok did)
    (told, λ i. record old { asking = record old.asking { prepared = none i } })

module _ (old new : SessionState) (word name : List ℕ) (named : (name ≡ word) × (is_name word ≡ true)) where
  -- SETTITLE
  pub set_title_does : (text : List ℕ) → description old.store.layers old.at name ≡ Ok text → (result : Result Stepped OutOfMemory) → Comes (reply_asking old (reply 0 []) (titled old.asking text)) [] old new result
      → Does (command.SetTitle word) old new result
  set_title_does text is result comes =
      read_does old new (command.SetTitle word) (quiet (command.SetTitle word) old refl refl) word name named (description old.store.layers old.at) (λ t. reply_asking old (reply 0 []) (titled old.asking t)) refl text is result comes

  -- INPUT
  pub input_does : (priority : Priority) (shown : Bool) → is_to_be_shown old priority name ≡ Ok shown → (result : Result Stepped OutOfMemory)
      → Comes (reply_asking old (input_reply old.policy.frontend shown) (prepared_if shown old.asking name)) [] old new result → Does (command.Input priority word) old new result
  input_does priority shown is result comes =
      read_does old new (command.Input priority word) (quiet (command.Input priority word) old refl refl) word name named (is_to_be_shown old priority)
      (λ s. reply_asking old (input_reply old.policy.frontend s) (prepared_if s old.asking word)) refl shown is result
      (subst (λ (n : List ℕ). Comes (reply_asking old (input_reply old.policy.frontend shown) (prepared_if shown old.asking n)) [] old new result) named.0 comes)

module _ (old : SessionState) (word name : List ℕ) (named : (name ≡ word) × (is_name word ≡ true)) where
  pub set_title_refused : (e : QuestionError) → AnswersOf {A = List ℕ} (Err e) (description old.store.layers old.at name) → (result : Result Stepped OutOfMemory) → TellsRefusal [] e result → Does (command.SetTitle word) old old result
  set_title_refused e answers result told =
      unread_does old old (command.SetTitle word) (quiet (command.SetTitle word) old refl refl) word name named (description old.store.layers old.at) (λ t. reply_asking old (reply 0 []) (titled old.asking t)) refl e answers result told refl

  pub input_refused : (priority : Priority) (e : QuestionError) → AnswersOf {A = Bool} (Err e) (is_to_be_shown old priority name) → (result : Result Stepped OutOfMemory) → TellsRefusal [] e result → Does (command.Input priority word) old old result
  input_refused priority e answers result told =
      unread_does old old (command.Input priority word) (quiet (command.Input priority word) old refl refl) word name named (is_to_be_shown old priority)
      (λ s. reply_asking old (input_reply old.policy.frontend s) (prepared_if s old.asking word)) refl e answers result told refl

-- PURGE
module _ (old : SessionState) where
  -- a question of the owner is prepared
  pub purge_busy : (name : List ℕ) → first_busy old.asking (owned old.store.layers old.at.config old.owner) ≡ Some name → (result : Result Stepped OutOfMemory) → IfOk result (λ did. did ≡ Replied (is_busy name))
      → Does command.Purge old old result
  purge_busy name is result told =
      told_does old command.Purge (quiet command.Purge old refl refl) (is_busy name)
      (ap (λ (busy : Option (List ℕ)). option_map_or (λ n. reply_only old (is_busy n)) busy (reply_write old (reply 0 []) (purged old.store old.at old.owner))) is) result told

  -- none is
  pub purge_does : (new : SessionState) → first_busy old.asking (owned old.store.layers old.at.config old.owner) ≡ None → (result : Result Stepped OutOfMemory)
      → Comes (reply_write old (reply 0 []) (purged old.store old.at old.owner)) (names_on old command.Purge nothing) old new result → Does command.Purge old new result
  purge_does new none result comes =
      stored_does command.Purge old new (quiet command.Purge old refl refl) (reply_write old (reply 0 []) (purged old.store old.at old.owner))
      (ap (λ (busy : Option (List ℕ)). option_map_or (λ n. reply_only old (is_busy n)) busy (reply_write old (reply 0 []) (purged old.store old.at old.owner))) none) result comes

-- UNREGISTER
module _ (old : SessionState) (word name : List ℕ) (named : (name ≡ word) × (is_name word ≡ true)) where
  leaving : List ℕ → CommandOutcome
  leaving n = unless_busy old (n ∷ []) (reply_write old (reply 0 []) (unregistered old.store old.at n old.owner))

  pub unregister_missing : exists old.store.layers old.at name ≡ false → (result : Result Stepped OutOfMemory) → IfOk result (λ did. did ≡ Replied (no_question name)) → Does (command.Unregister word) old old result
  unfolding leaving
  unregister_missing none result told = told_does old (command.Unregister word) (quiet (command.Unregister word) old refl refl) (no_question name) (there_none old word name named leaving none) result told

  busy_one : is_among old.asking.prepared name ≡ true → first_busy old.asking (name ∷ []) ≡ Some name
  busy_one is = rw is refl

  pub unregister_busy : exists old.store.layers old.at name ≡ true → is_among old.asking.prepared name ≡ true → (result : Result Stepped OutOfMemory) → IfOk result (λ did. did ≡ Replied (is_busy name))
      → Does (command.Unregister word) old old result
  unfolding leaving
  unregister_busy some is result told =
      told_does old (command.Unregister word) (quiet (command.Unregister word) old refl refl) (is_busy name)
      (there_found old word name named leaving some ∙ ap (λ (busy : Option (List ℕ)). option_map_or (λ n. reply_only old (is_busy n)) busy (reply_write old (reply 0 []) (unregistered old.store old.at name old.owner))) (busy_one is)) result told

-- ---- lists made name by name

pub filter_more : (p : List ℕ → Bool) (xs : List (List ℕ)) (i : ℕ) (x : List ℕ) → i < length xs → x ≡ get_or xs i x → filter p (take i xs) ++ filter p (x ∷ []) ≡ filter p (take (i + 1) xs)
filter_more p xs i x lt is = sym (filter-append p (take i xs) (x ∷ [])) ∙ ap (filter p) (ap (λ y. take i xs ++ y ∷ []) is ∙ sym (take_more xs i x lt))

-- ---- GO

-- the questions of choices are some of the prepared ones, so they are distinct
-- a choice is of its own question
abbrev IsOwn : (List ℕ → Option (List ℕ × List ℕ)) → Type 0
IsOwn choice = (name : List ℕ) (a : List ℕ × List ℕ) → choice name ≡ Some a → a.0 ≡ name

other_by : (found : Option (List ℕ × List ℕ)) (first name : List ℕ) (later : List (List ℕ × List ℕ)) → ((a : List ℕ × List ℕ) → found ≡ Some a → a.0 ≡ name) → name ≢ first
    → AllByRecursion (λ other. other ≢ first) (each (λ a. a.0) later) → AllByRecursion (λ other. other ≢ first) (each (λ a. a.0) (cons_option found later))
other_by None first name later own not_first all = all
other_by (Some a) first name later own not_first all = ((λ same. not_first (sym (own a refl) ∙ same)), all)

chosen_other : (choice : List ℕ → Option (List ℕ × List ℕ)) → IsOwn choice → (first : List ℕ) (names : List (List ℕ))
    → AllByRecursion (λ other. other ≢ first) names → AllByRecursion (λ other. other ≢ first) (each (λ a. a.0) (filter_map choice names))
chosen_other choice own first [] all = tt
chosen_other choice own first (name ∷ names) all = other_by (choice name) first name (filter_map choice names) (own name) all.0 (chosen_other choice own first names all.1)

distinct_by : (found : Option (List ℕ × List ℕ)) (name : List ℕ) (later : List (List ℕ × List ℕ)) → ((a : List ℕ × List ℕ) → found ≡ Some a → a.0 ≡ name)
    → AllByRecursion (λ other. other ≢ name) (each (λ a. a.0) later) → AreDistinct (each (λ a. a.0) later) → AreDistinct (each (λ a. a.0) (cons_option found later))
distinct_by None name later own others all = all
distinct_by (Some a) name later own others all = (subst (λ (n : List ℕ). AllByRecursion (λ other. other ≢ n) (each (λ a. a.0) later)) (sym (own a refl)) others, all)

chosen_distinct : (choice : List ℕ → Option (List ℕ × List ℕ)) → IsOwn choice → (names : List (List ℕ)) → AreDistinct names → AreDistinct (each (λ a. a.0) (filter_map choice names))
chosen_distinct choice own [] all = tt
chosen_distinct choice own (name ∷ names) all =
    distinct_by (choice name) name (filter_map choice names) (own name) (chosen_other choice own name names all.0) (chosen_distinct choice own names all.1)

own_by : (found : Option (List ℕ)) (name : List ℕ) (a : List ℕ × List ℕ) → option_map (λ choice. (name, choice)) found ≡ Some a → a.0 ≡ name
own_by None name a is = cc
own_by (Some choice) name a is = let same : (name, choice) ≡ a = cc in ap (λ (p : List ℕ × List ℕ). p.0) (sym same)

own_choice : (layers : List LayerState) (at : QuestionContext) → IsOwn (choice_for layers at)
own_choice layers at name a is = own_by (option_and_then (λ k. settled_choice (shown layers at name k)) (kind layers at name)) name a is

pub choices_distinct : (layers : List LayerState) (at : QuestionContext) (names : List (List ℕ)) → AreDistinct names → AreDistinct (each (λ a. a.0) (filter_map (choice_for layers at) names))
choices_distinct layers at names = chosen_distinct (choice_for layers at) (own_choice layers at) names

-- what GO comes to where nobody is asked
module _ (old : SessionState) (nobody : old.policy.frontend ≡ Noninteractive) where
  go_is : answer old command.Go nothing ≡ gone old (values_set old.store old.at (choices_for old))
  go_is = ap (λ (f : Frontend). going f old (Answers [])) nobody

  go_quiet : Gives command.Go old nothing old.files old.terminal
  go_quiet = quiet command.Go old refl (ap (λ (f : Frontend). where_asked f (option_map_or (λ name. Blank) (first_fixed old) (dialogue (to_show old)))) nobody)

  go_names : names_on old command.Go nothing ≡ each (λ a. a.0) (choices_for old)
  go_names = ap (λ (f : Frontend). going_names f old (Answers [])) nobody

  pub go_does : (new : SessionState) (result : Result Stepped OutOfMemory) → ComesAsking (gone old (values_set old.store old.at (choices_for old))) (each (λ a. a.0) (choices_for old)) old new result → Does command.Go old new result
  go_does new result comes =
      asking_does command.Go nothing old new old.files old.terminal (gone old (values_set old.store old.at (choices_for old))) (each (λ a. a.0) (choices_for old)) result go_quiet (sym go_is) (sym go_names) comes

-- the choices are set
pub skipped_comes : (old : SessionState) (names : List (List ℕ)) (store : StoreState) (at : QuestionContext) → at ≡ old.at → values_set old.store old.at (choices_for old) ≡ Ok store → (new : SessionState)
    → new ≡ record old { store = store; at = at; asking = skipped old } → (did : Stepped) → did ≡ Replied (reply 0 (codes "ok")) → ComesAsking (gone old (values_set old.store old.at (choices_for old))) names old new (Ok did)
skipped_comes old names store at at_is is new new_is did told =
    subst (λ (batch : Result StoreState QuestionError). ComesAsking (gone old batch) names old new (Ok did)) (sym is) (told, new_is ∙ (λ i. record old { store = store; at = at_is i; asking = skipped old }))

module _ (old : SessionState) (names : List (List ℕ)) (batch : Result StoreState QuestionError) (outcome : Result StoreState QuestionError → CommandOutcome) (store : StoreState) (at : QuestionContext) (at_is : at ≡ old.at) where
  module _ (error_is : (e : QuestionError) → outcome (Err e) ≡ reply_only old (refusal [] e)) where
    unset : (e : QuestionError) → (batch ≡ Err e) × (store ≡ old.store) → (did : Stepped) → did ≡ Replied (refusal [] e) → ComesAsking (outcome batch) names old (record old { store = store; at = at }) (Ok did)
    unset e left did told =
        let is : outcome batch ≡ reply_only old (refusal [] e) = ap outcome left.0 ∙ error_is e in
        subst (λ (o : CommandOutcome). ComesAsking o names old (record old { store = store; at = at }) (Ok did)) (sym is) (told, λ i. record old { store = left.1 i; at = at_is i })

    -- values that were to be set, and one of them can't be changed
    pub unset_comes : (e : QuestionError) → DoesChange {A = Unit {0}} (Err e) batch old.store store → AreSameButAll names old.store.layers store.layers
        → (result : Result Stepped OutOfMemory) → TellsRefusal [] e result → ComesAsking (outcome batch) names old (record old { store = store; at = at }) result
    unset_comes e left others (Err memory) told = (others, λ i. record old { store = store; at = at_is i })
    unset_comes error.OutOfMemory left others (Ok did) told = absurd told
    unset_comes (error.NoQuestion name) left others (Ok did) told = unset (error.NoQuestion name) left did told
    unset_comes (error.NoTemplate name) left others (Ok did) told = unset (error.NoTemplate name) left did told
    unset_comes error.NoField left others (Ok did) told = unset error.NoField left did told
    unset_comes (error.CantChange name) left others (Ok did) told = unset (error.CantChange name) left did told
    unset_comes (error.Twice name) left others (Ok did) told = unset (error.Twice name) left did told

-- ---- the end of a session

pub others_named : (names asked : List (List ℕ)) (xs ys : List LayerState) → names ≡ asked → AreSameButAll names xs ys → AreSameButAll asked xs ys
others_named names asked xs ys is others = subst (λ (ns : List (List ℕ)). AreSameButAll ns xs ys) is others

-- so many of the names are marked as seen, from this state
pub record IsMarked (old : SessionState) (names : List (List ℕ)) (count : ℕ) (new : SessionState) : Type 0 where
  pub store : new.store ≡ fold (with_seen old.at) old.store (take count names)
  pub others : AreSameButAll names old.store.layers new.store.layers
  pub kept : new ≡ record old { store = new.store }

pub marked_none : (old : SessionState) (names : List (List ℕ)) → IsMarked old names 0 old
marked_none old names = record { store = refl; others = same_all_refl names old.store.layers; kept = refl }

module _ (old mid new : SessionState) (names : List (List ℕ)) (i : ℕ) (name : List ℕ) (lt : i < length names) (is : name ≡ get_or names i name) (marked : IsMarked old names i mid)
    (others : AreSameBut name mid.store.layers new.store.layers) (kept : new ≡ record mid { store = new.store }) where
  pub marked_others : AreSameButAll names old.store.layers new.store.layers
  marked_others = same_all_then names old.store.layers mid.store.layers new.store.layers marked.others (same_all names name mid.store.layers new.store.layers (i, lt, sym is) others)

  pub marked_kept : new ≡ record old { store = new.store }
  marked_kept = kept ∙ ap (λ (s : SessionState). record s { store = new.store }) marked.kept

  pub marked_more : new.store ≡ with_seen mid.at mid.store name → IsMarked old names (i + 1) new
  marked_more store = record {
    store =
        store ∙ (λ j. with_seen ((ap (λ (s : SessionState). s.at) marked.kept) j) (marked.store j) name)
        ∙ sym (fold-append (with_seen old.at) old.store (take i names) (name ∷ [])) ∙ ap (fold (with_seen old.at) old.store) (ap (λ y. take i names ++ y ∷ []) is ∙ sym (take_more names i name lt));
    others = marked_others;
    kept = marked_kept;
  }
