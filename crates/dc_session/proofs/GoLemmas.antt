-- GO where a user is asked.
use Rattle.std.proofs.Common.{◌≡◌, ◌≢◌, ℕ, ◌+◌, ◌<◌, List, [], ◌∷◌, ◌++◌, take, drop, get_or, length, refl, sym, ap, subst, ◌∙◌}
use Rattle.std.specs.Prelude.{Bool, true, false, Option, Some, None, Result, Ok, Err, IfOk, map as each, fold, find, option_map, codes}
use Rattle.std.specs.List.{filter_map, cons_option, AllByRecursion}
use Rattle.std.specs.Option.{option_or, option_map_or}
use Rattle.std.proofs.lemmas.List.{take_more, take-append-drop}
use Rattle.std.proofs.lemmas.List.Folds.{find-append}
use Rattle.dc_text.specs.Maps.{AreDistinct}
use Rattle.dc_text.specs.declared.memory.OutOfMemory.{OutOfMemory}
use Rattle.dc_frontend.specs.declared.frontend.Frontend.{Frontend}
use Rattle.dc_frontend.specs.declared.frontend.Frontend.TheVariants.{Noninteractive, Teletype, Passthrough}
use Rattle.dc_frontend.specs.declared.shown.Shown.{Shown}
use Rattle.dc_layer.specs.State.{LayerState}
use Rattle.dc_proto.specs.Replies.{reply}
use Rattle.dc_proto.specs.declared.command.Command.TheVariants as command
use Rattle.dc_question.specs.Changes.{Does as DoesChange, values_set}
use Rattle.dc_question.specs.Questions.{QuestionContext, kind}
use Rattle.dc_question.specs.declared.errors.QuestionError.{QuestionError}
use Rattle.dc_store.specs.Plans.{StoreState}
use Rattle.dc_store.specs.StoreLaws.{AreSameButAll}
use Rattle.dc_teletype.specs.declared.teletype.Answer.{Answer}
use Rattle.dc_teletype.specs.declared.teletype.Answer.TheVariants.{Keep, Value}
use Rattle.dc_teletype.specs.declared.teletype.Asked.{Asked}
use Rattle.dc_teletype.specs.declared.teletype.Asked.TheVariants.{Answers, Back}
use Rattle.dc_template.specs.declared.kinds.Kind.{Kind}
use Rattle.dc_session.specs.Answers.{CommandOutcome, answer, names_on, reply_only, going, asked_out, going_names, names_given, heard_out, answered}
use Rattle.dc_session.specs.Asking.{shown, to_show, values_given, first_fixed, with_name}
use Rattle.dc_session.specs.Displays.{Display, Blank, displayed, where_asked, dialogue}
use Rattle.dc_session.specs.Inside.{TellsRefusal, ComesAsking, HasShown, StopsShowing, lifted}
use Rattle.dc_session.specs.Machine.{DoesShowing, BreaksOff}
use Rattle.dc_session.specs.Refusals.{cant_change}
use Rattle.dc_session.specs.SessionState.{SessionState}
use Rattle.dc_session.specs.declared.stepped.StepError.{StepError}
use Rattle.dc_session.specs.declared.stepped.Stepped.{Stepped}
use Rattle.dc_session.specs.declared.stepped.Stepped.TheVariants.{Replied}
use Rattle.dc_session.proofs.TerminalLemmas.{answered_so, lifts, shown_asking, stops_showing}
use Rattle.dc_session.proofs.CommandLemmas.{where_blank, stored_does, quiet}
use Rattle.dc_session.proofs.AskingLemmas.{told_comes, unset_comes}

-- ---- a search name by name

module _ {A : Type 0} (p : A → Bool) (xs : List A) (i : ℕ) (x : A) (lt : i < length xs) (is : x ≡ get_or xs i x) where
  found_more : find p (take (i + 1) xs) ≡ option_or (find p (take i xs)) (find p (x ∷ []))
  found_more = ap (find p) (take_more xs i x lt ∙ ap (λ y. take i xs ++ y ∷ []) (sym is)) ∙ find-append p (take i xs) (x ∷ [])

  -- it isn't this one either
  pub not_found_more : find p (take i xs) ≡ None → p x ≡ false → find p (take (i + 1) xs) ≡ None
  not_found_more none other = found_more ∙ (rw (none, other) refl)

  -- it is this one
  pub found_here : find p (take i xs) ≡ None → p x ≡ true → find p xs ≡ Some x
  found_here none this =
      let whole : take (i + 1) xs ++ drop (i + 1) xs ≡ xs = take-append-drop (i + 1) xs in
      let here : find p (take (i + 1) xs) ≡ Some x = found_more ∙ (rw (none, this) refl) in
      ap (find p) (sym whole) ∙ find-append p (take (i + 1) xs) (drop (i + 1) xs) ∙ ap (λ f. option_or f (find p (drop (i + 1) xs))) here

-- ---- names that are distinct

module _ (layers : List LayerState) (at : QuestionContext) where
  abbrev pick : List ℕ → Option Shown
  pick name = option_map (shown layers at name) (kind layers at name)

  other_by : (first name : List ℕ) (found : Option Kind) (later : List Shown) → name ≢ first → AllByRecursion (λ other. other ≢ first) (each (λ s. s.name) later)
      → AllByRecursion (λ other. other ≢ first) (each (λ s. s.name) (cons_option (option_map (shown layers at name) found) later))
  other_by first name None later not_first all = all
  other_by first name (Some k) later not_first all = (not_first, all)

  shown_others : (first : List ℕ) (names : List (List ℕ)) → AllByRecursion (λ other. other ≢ first) names → AllByRecursion (λ other. other ≢ first) (each (λ s. s.name) (filter_map pick names))
  shown_others first [] all = tt
  shown_others first (name ∷ names) all = other_by first name (kind layers at name) (filter_map pick names) all.0 (shown_others first names all.1)

  distinct_by : (name : List ℕ) (found : Option Kind) (later : List Shown) → AllByRecursion (λ other. other ≢ name) (each (λ s. s.name) later) → AreDistinct (each (λ s. s.name) later)
      → AreDistinct (each (λ s. s.name) (cons_option (option_map (shown layers at name) found) later))
  distinct_by name None later others all = all
  distinct_by name (Some k) later others all = (others, all)

  -- the questions that are shown are some of the prepared ones
  pub shown_distinct : (names : List (List ℕ)) → AreDistinct names → AreDistinct (each (λ s. s.name) (filter_map (λ name. option_map (shown layers at name) (kind layers at name)) names))
  shown_distinct [] all = tt
  shown_distinct (name ∷ names) all = distinct_by name (kind layers at name) (filter_map pick names) (shown_others name names all.0) (shown_distinct names all.1)

given_others : (first : List ℕ) (questions : List Shown) (answers : List Answer) → AllByRecursion (λ other. other ≢ first) (each (λ s. s.name) questions)
    → AllByRecursion (λ other. other ≢ first) (each (λ a. a.0) (values_given questions answers))
given_others first [] answers all = tt
given_others first (question ∷ questions) [] all = tt
given_others first (question ∷ questions) (Keep ∷ answers) all = given_others first questions answers all.1
given_others first (question ∷ questions) (Value text ∷ answers) all = (all.0, given_others first questions answers all.1)

-- and so are those that are set
pub given_distinct : (questions : List Shown) (answers : List Answer) → AreDistinct (each (λ s. s.name) questions) → AreDistinct (each (λ a. a.0) (values_given questions answers))
given_distinct [] answers all = tt
given_distinct (question ∷ questions) [] all = tt
given_distinct (question ∷ questions) (Keep ∷ answers) all = given_distinct questions answers all.1
given_distinct (question ∷ questions) (Value text ∷ answers) all = (given_others question.name questions answers all.0, given_distinct questions answers all.1)

-- ---- what GO comes to

-- a user is asked
going_asks : (frontend : Frontend) → frontend ≢ Noninteractive → (state : SessionState) (asked : Asked) → going frontend state asked ≡ asked_out state asked
going_asks Noninteractive user state asked = absurd (user refl)
going_asks Teletype user state asked = refl
going_asks Passthrough user state asked = refl

names_asks : (frontend : Frontend) → frontend ≢ Noninteractive → (state : SessionState) (asked : Asked) → names_given state asked ≡ going_names frontend state asked
names_asks Noninteractive user state asked = absurd (user refl)
names_asks Teletype user state asked = refl
names_asks Passthrough user state asked = refl

module _ (old : SessionState) (user : old.policy.frontend ≢ Noninteractive) where
  -- what is asked where questions are asked
  abbrev pub dialogue_shown : Display
  dialogue_shown = where_asked old.policy.frontend (dialogue (to_show old))

  -- a value can't be changed
  module _ (name : List ℕ) (fixed : first_fixed old ≡ Some name) where
    pub fixed_does : (result : Result Stepped OutOfMemory) → IfOk result (λ did. did ≡ Replied (cant_change name)) → DoesShowing command.Go old old (lifted result)
    fixed_does result told =
        lifts command.Go old old result
        (stored_does command.Go old old
        (quiet command.Go old refl
        (ap (λ (f : Option (List ℕ)). where_asked old.policy.frontend (option_map_or (λ n. Blank) f (dialogue (to_show old)))) fixed ∙ where_blank old.policy.frontend))
        (reply_only old (cant_change name))
        (going_asks old.policy.frontend user old (Answers []) ∙ ap (λ (f : Option (List ℕ)). option_map_or (λ n. reply_only old (cant_change n)) f (heard_out old (Answers []))) fixed)
        result (told_comes old (names_on old command.Go (answered_so (Answers []))) (cant_change name) result told))

  module _ (free : first_fixed old ≡ None) where
    pub shows_dialogue : displayed old command.Go ≡ dialogue_shown
    shows_dialogue = ap (λ (f : Option (List ℕ)). where_asked old.policy.frontend (option_map_or (λ n. Blank) f (dialogue (to_show old)))) free

    pub comes_to : (asked : Asked) → heard_out old asked ≡ answer old command.Go (answered_so asked)
    comes_to asked = sym (going_asks old.policy.frontend user old asked ∙ ap (λ (f : Option (List ℕ)). option_map_or (λ n. reply_only old (cant_change n)) f (heard_out old asked)) free)

    -- the dialogue was held, and this came of it
    pub held_does : (asked : Asked) (mid new : SessionState) → HasShown dialogue_shown old (Ok asked) mid → (result : Result Stepped OutOfMemory)
        → ComesAsking (heard_out mid asked) (names_given old asked) mid new result → DoesShowing command.Go old new (lifted result)
    held_does asked mid new shown result comes =
        shown_asking command.Go old refl dialogue_shown shows_dialogue asked mid new shown (heard_out mid asked) (names_given old asked) result
        (same_outcome ∙ comes_to asked) (names_asks old.policy.frontend user old asked) comes where
          by_asked : (a : Asked) (s : SessionState) → s ≡ record old { terminal = s.terminal } → heard_out s a ≡ heard_out old a
          by_asked Back s same = ap (λ (t : SessionState). heard_out t Back) same
          by_asked (Answers answers) s same = ap (λ (t : SessionState). heard_out t (Answers answers)) same ∙ stays (values_set old.store old.at (values_given (to_show old) answers)) where
            stays : (batch : Result StoreState QuestionError) → answered (record old { terminal = s.terminal }) batch ≡ answered old batch
            stays (Ok store) = refl
            stays (Err error) = refl

          same_outcome : heard_out mid asked ≡ heard_out old asked
          same_outcome = by_asked asked mid shown.kept

    -- or it stopped
    pub stops_does : (new : SessionState) (error : StepError) → StopsShowing dialogue_shown old error new → BreaksOff command.Go old error new
    stops_does new error stopped = stops_showing command.Go old refl dialogue_shown shows_dialogue new error stopped

-- ---- the answers are taken, or not

module _ (old : SessionState) (questions : List Shown) (answers : List Answer) (shown_are : questions ≡ to_show old) where
  heard_is : heard_out old (Answers answers) ≡ answered old (values_set old.store old.at (values_given questions answers))
  heard_is = ap (λ (qs : List Shown). answered old (values_set old.store old.at (values_given qs answers))) (sym shown_are)

  pub taken_comes : (names : List (List ℕ)) (store : StoreState) (at : QuestionContext) → at ≡ old.at → values_set old.store old.at (values_given questions answers) ≡ Ok store → (new : SessionState)
      → new ≡ record old { store = store; at = at; asking = record old.asking { prepared = []; asked = fold with_name old.asking.asked (each (λ s. s.name) questions) } } → (did : Stepped) → did ≡ Replied (reply 0 (codes "ok"))
      → ComesAsking (heard_out old (Answers answers)) names old new (Ok did)
  taken_comes names store at at_is is new new_is did told =
      let comes : heard_out old (Answers answers) ≡ answered old (Ok store) = heard_is ∙ ap (answered old) is in
      subst (λ (o : CommandOutcome). ComesAsking o names old new (Ok did)) (sym comes)
      (told, new_is ∙ (λ i. record old { store = store; at = at_is i; asking = record old.asking { prepared = []; asked = fold with_name old.asking.asked (each (λ s. s.name) (shown_are i)) } }))

  -- one can't be changed
  pub untaken_comes : (names : List (List ℕ)) (store : StoreState) (at : QuestionContext) → at ≡ old.at → (e : QuestionError) → DoesChange {A = Unit {0}} (Err e) (values_set old.store old.at (values_given questions answers)) old.store store
      → AreSameButAll names old.store.layers store.layers → (result : Result Stepped OutOfMemory) → TellsRefusal [] e result → ComesAsking (heard_out old (Answers answers)) names old (record old { store = store; at = at }) result
  untaken_comes names store at at_is e left others result told =
      subst (λ (o : CommandOutcome). ComesAsking o names old (record old { store = store; at = at }) result) (sym heard_is)
      (unset_comes old names (values_set old.store old.at (values_given questions answers)) (answered old) store at at_is (λ error. refl) e left others result told)
