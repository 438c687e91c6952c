-- The answers that a user gives are taken.
use Rattle.std.proofs.Common.{◌≡◌, ◌≢◌, ℕ, inl, inr, List, [], ◌∷◌, refl, sym, ap, subst, ◌∙◌}
use Rattle.std.specs.Prelude.{Bool, true, false, ◌&&◌, not, Option, Some, None, Result, Ok, ⊤, find, drop, option_map, if◌then◌else◌, map as each}
use Rattle.std.specs.List.{All, filter_map, cons_option}
use Rattle.std.specs.Option.{option_map_or}
use Rattle.std.specs.Str.{bytes_eq}
use Rattle.std.specs.Prelude.{codes}
use Rattle.std.proofs.lemmas.Bool.{cases_Bool}
use Rattle.std.proofs.lemmas.List.Elements.{All-nil, All-cons}
use Rattle.dc_text.specs.Bytes.{is_nil, trimmed}
use Rattle.dc_frontend.specs.declared.frontend.Frontend.{Frontend}
use Rattle.dc_frontend.specs.declared.frontend.Frontend.TheVariants.{Noninteractive, Teletype, Passthrough}
use Rattle.dc_frontend.specs.declared.shown.Shown.{Shown}
use Rattle.dc_layer.specs.State.{LayerState}
use Rattle.dc_pass.specs.Passing.{Requests, is_sent, sent_questions, sent_title, first_answer, spread, asked_by}
use Rattle.dc_pass.specs.Wire.{is_value, answer_all}
use Rattle.dc_proto.specs.declared.command.Command.TheVariants as command
use Rattle.dc_question.specs.Changes.{values_set, value_write}
use Rattle.dc_question.specs.Questions.{QuestionContext, kind, can_change}
use Rattle.dc_question.proofs.AnswerLemmas.{values_left}
use Rattle.dc_store.specs.Batches.{all_done}
use Rattle.dc_teletype.specs.Answers.{answer_to, answer_by}
use Rattle.dc_teletype.specs.Answered.{HaveAnswers}
use Rattle.dc_teletype.specs.declared.answering.Reading.TheVariants as reading
use Rattle.dc_teletype.specs.declared.teletype.Answer.{Answer}
use Rattle.dc_teletype.specs.declared.teletype.Answer.TheVariants.{Keep, Value}
use Rattle.dc_teletype.specs.declared.teletype.Asked.{Asked}
use Rattle.dc_teletype.specs.declared.teletype.Asked.TheVariants.{Answers, Back}
use Rattle.dc_teletype.proofs.AnsweredLemmas.{all_answered}
use Rattle.dc_template.specs.declared.kinds.Kind.{Kind}
use Rattle.dc_template.specs.declared.kinds.Kind.TheVariants.{Str, Bool as Boolean, Select, Multiselect, Password, Note, Txt, Error, Title}
use Rattle.dc_session.specs.Answers.{CommandOutcome, answer, heard_out, answered}
use Rattle.dc_session.specs.Asking.{shown, to_show, values_given, first_fixed, is_fixed, has_value}
use Rattle.dc_session.specs.Displays.{Display, displayed, where_asked, dialogue, HasRequest, Shows}
use Rattle.dc_session.specs.Machine.{HasDone}
use Rattle.dc_session.specs.SessionState.{SessionState, ScreenState, typed_at}
use Rattle.dc_session.specs.Taken.{Takes}
use Rattle.dc_session.specs.declared.asking.Asking.{Asking}
use Rattle.dc_session.specs.declared.stepped.Stepped.{Stepped}
use Rattle.dc_session.proofs.GoLemmas.{shows_dialogue, comes_to}

-- ---- one question

-- a line answers a value only where there is one
valued_by : (k : Kind) (choices labels : List (List ℕ)) (line answer text : List ℕ) → answer_by k choices labels line answer ≡ reading.Value text → has_value k ≡ true
valued_by Str choices labels line answer text is = refl
valued_by Boolean choices labels line answer text is = refl
valued_by Select choices labels line answer text is = refl
valued_by Multiselect choices labels line answer text is = refl
valued_by Password choices labels line answer text is = refl
valued_by Note choices labels line answer text is = absurd (cc)
valued_by Txt choices labels line answer text is = absurd (cc)
valued_by Error choices labels line answer text is = absurd (cc)
valued_by Title choices labels line answer text is = absurd (cc)

valued : (question : Shown) (backup : Bool) (line text : List ℕ) → answer_to question backup line ≡ reading.Value text → has_value question.kind ≡ true
valued question backup line text is = elim (cases_Bool (backup && bytes_eq (trimmed line) (codes "<"))) [
  | inl back ↦ absurd (let off = rw back at is in cc)
  | inr on ↦ elim (cases_Bool (is_nil (trimmed line))) [
    | inl blank ↦ absurd (let off = rw (on, blank) at is in cc)
    | inr some ↦ valued_by question.kind question.choices question.labels line (trimmed line) text (rw (on, some) at is)
  ]
]

-- what has a value, and isn't fixed, can be changed
changeable : (has can : Bool) → has ≡ true → (has && not can) ≡ false → can ≡ true
changeable true true is free = refl
changeable true false is free = absurd (cc)
changeable false can is free = absurd (cc)

-- ---- all questions

-- each value is given to a question that has one
abbrev AreValued : List Shown → List Answer → Type 0
AreValued [] answers = ⊤
AreValued (question ∷ questions) [] = ⊤
AreValued (question ∷ questions) (Keep ∷ answers) = AreValued questions answers
AreValued (question ∷ questions) (Value text ∷ answers) = (has_value question.kind ≡ true) × AreValued questions answers

-- on a terminal
have_valued : (backup : Bool) (questions : List Shown) (answers : List Answer) → HaveAnswers backup questions answers → AreValued questions answers
have_valued backup [] answers have = tt
have_valued backup (question ∷ questions) [] have = tt
have_valued backup (question ∷ questions) (Keep ∷ answers) have = have_valued backup questions answers have.1
have_valued backup (question ∷ questions) (Value text ∷ answers) have = (valued question backup have.0.0 text have.0.1, have_valued backup questions answers have.1)

-- where all values are kept
kept_valued : (questions others : List Shown) → AreValued questions (each (λ (_ : Shown). Keep) others)
kept_valued [] others = tt
kept_valued (question ∷ questions) [] = tt
kept_valued (question ∷ questions) (other ∷ others) = kept_valued questions others

-- a value is answered over the wire only where there is one
wire_valued : (k : Kind) (choices : List (List ℕ)) (text : List ℕ) → is_value k choices text ≡ true → has_value k ≡ true
wire_valued Str choices text is = refl
wire_valued Boolean choices text is = refl
wire_valued Select choices text is = refl
wire_valued Multiselect choices text is = refl
wire_valued Password choices text is = refl
wire_valued Note choices text is = absurd (cc)
wire_valued Txt choices text is = absurd (cc)
wire_valued Error choices text is = absurd (cc)
wire_valued Title choices text is = absurd (cc)

both_true : (a b : Bool) → (a && b) ≡ true → (a ≡ true) × (b ≡ true)
both_true true b is = (refl, is)
both_true false b is = absurd (cc)

first_valued : (question : Shown) (questions asked : List Shown) (answers : List Answer) → answer_all (question ∷ asked) answers ≡ true
    → ((others : List Answer) → answer_all asked others ≡ true → AreValued questions (spread questions others)) → AreValued (question ∷ questions) (first_answer answers ∷ spread questions (drop 1 answers))
first_valued question questions asked [] all rest = absurd (cc)
first_valued question questions asked (Keep ∷ answers) all rest = rest answers all
first_valued question questions asked (Value text ∷ answers) all rest =
    let both = both_true (is_value question.kind question.choices text) (answer_all asked answers) all in
    (wire_valued question.kind question.choices text both.0, rest answers both.1)

-- over the wire
one_valued : (question : Shown) (questions : List Shown) (answers : List Answer) (b : Bool) → ((others : List Answer) → answer_all (sent_questions questions) others ≡ true → AreValued questions (spread questions others))
    → answer_all (if b then question ∷ sent_questions questions else sent_questions questions) answers ≡ true
    → AreValued (question ∷ questions) (if b then first_answer answers ∷ spread questions (drop 1 answers) else Keep ∷ spread questions answers)
one_valued question questions answers true rest some = first_valued question questions (sent_questions questions) answers some rest
one_valued question questions answers false rest none = rest answers none

spread_valued : (questions : List Shown) (answers : List Answer) → answer_all (sent_questions questions) answers ≡ true → AreValued questions (spread questions answers)
spread_valued [] answers all = tt
spread_valued (question ∷ questions) answers all =
    one_valued question questions answers (is_sent question) (λ (others : List Answer) (are : answer_all (sent_questions questions) others ≡ true). spread_valued questions others are) all

one_asked : (a b : List Answer) → ◌≡◌ {A = Asked} (Answers a) (Answers b) → a ≡ b
one_asked a b is = cc

module _ (asking : Asking) (questions : List Shown) (old new : ScreenState) (answers : List Answer) where
  answered_valued : (heard : Option Asked) → Requests asking.backup (sent_title asking.title) (sent_questions questions) old.ahead.got (typed_at old) (typed_at new) (Ok heard) new.ahead.got
      → Answers answers ≡ asked_by questions heard → AreValued questions answers
  answered_valued None requests is = subst (AreValued questions) (sym (one_asked answers (each (λ (_ : Shown). Keep) questions) is)) (kept_valued questions questions)
  answered_valued (Some (Answers others)) requests is =
      subst (AreValued questions) (sym (one_asked answers (spread questions others) is)) (spread_valued questions others requests.hears.2.is)
  answered_valued (Some Back) requests is = absurd (cc)

  request_valued : HasRequest asking questions old new (Ok (Answers answers)) → AreValued questions answers
  request_valued (inl none) = subst (AreValued questions) (sym (one_asked answers (each (λ (_ : Shown). Keep) questions) none.2)) (kept_valued questions questions)
  request_valued (inr some) = answered_valued some.0 some.1 some.2

-- each value that the user gives is given to a question that has one
all_valued : (asking : Asking) (old new : ScreenState) (frontend : Frontend) → frontend ≢ Noninteractive → (questions : List Shown) (answers : List Answer)
    → Shows asking (where_asked frontend (dialogue questions)) old (Ok (Answers answers)) new → AreValued questions answers
all_valued asking old new Noninteractive user questions answers shows = absurd (user refl)
all_valued asking old new Teletype user [] answers shows = tt
all_valued asking old new Teletype user (question ∷ questions) answers shows =
    have_valued asking.backup (question ∷ questions) answers
    (all_answered asking.backup asking.title (question ∷ questions) old.ahead.typed new.ahead.typed old.link.talk new.link.talk old.link.input new.link.input answers shows.dialogue.held)
all_valued asking old new Passthrough user [] answers shows = tt
all_valued asking old new Passthrough user (question ∷ questions) answers shows = request_valued asking (question ∷ questions) old new answers shows

-- ---- those that can be changed

module _ (layers : List LayerState) (at : QuestionContext) where
  abbrev pick : List ℕ → Option Shown
  pick name = option_map (shown layers at name) (kind layers at name)

  abbrev CanChange : List ℕ × List ℕ → Type 0
  CanChange answer = can_change layers at answer.0 ≡ true

  given_by : (name : List ℕ) (found : Option Kind) (later : List Shown) (answers : List Answer) → (option_map_or (λ k. has_value k && not (can_change layers at name)) found false) ≡ false
      → ((others : List Answer) → AreValued later others → All CanChange (values_given later others))
      → AreValued (cons_option (option_map (shown layers at name) found) later) answers → All CanChange (values_given (cons_option (option_map (shown layers at name) found) later) answers)
  given_by name None later answers free rest have = rest answers have
  given_by name (Some k) later [] free rest have = All-nil CanChange
  given_by name (Some k) later (Keep ∷ answers) free rest have = rest answers have
  given_by name (Some k) later (Value text ∷ answers) free rest have =
      All-cons CanChange (name, text) (values_given later answers) (changeable (has_value k) (can_change layers at name) have.0 free) (rest answers have.1)

  -- where no question is fixed, those that are given a value can be changed
  given_free : (names : List (List ℕ)) (answers : List Answer) → find (is_fixed layers at) names ≡ None → AreValued (filter_map pick names) answers → All CanChange (values_given (filter_map pick names) answers)
  given_free [] answers free have = All-nil CanChange
  given_free (name ∷ names) answers free have = elim (cases_Bool (is_fixed layers at name)) [
    | inl fixed ↦ absurd (let off = rw fixed at free in cc)
    | inr loose ↦
        let later : find (is_fixed layers at) names ≡ None = rw loose at free in
        given_by name (kind layers at name) (filter_map pick names) answers loose (λ (others : List Answer) (h : AreValued (filter_map pick names) others). given_free names others later h) have
  ]

-- ---- GO

module _ (old : SessionState) (user : old.policy.frontend ≢ Noninteractive) (free : first_fixed old ≡ None) where
  all_set : (answers : List Answer) (terminal : ScreenState) → Shows old.asking (displayed old command.Go) old.terminal (Ok (Answers answers)) terminal
      → values_set old.store old.at (values_given (to_show old) answers) ≡ Ok (all_done old.store (each (value_write old.store.layers old.at) (values_given (to_show old) answers)))
  all_set answers terminal shows =
      values_left old.store old.at (values_given (to_show old) answers)
      (given_free old.store.layers old.at old.asking.prepared answers free
      (all_valued old.asking old.terminal terminal old.policy.frontend user (to_show old) answers
      (subst (λ (d : Display). Shows old.asking d old.terminal (Ok (Answers answers)) terminal) (shows_dialogue old user free) shows)))

  module _ (did : Stepped) (new : SessionState) (done : HasDone command.Go old did new) where
    comes : answer old command.Go done.given ≡ heard_out old done.given.asked
    comes = sym (comes_to old user free done.given.asked)

    taken_by : (asked : Asked) → done.given.asked ≡ asked → Takes old asked did new
    taken_by Back is =
        let outcome : answer old command.Go done.given ≡ heard_out old Back = comes ∙ ap (heard_out old) is in
        record {
          did_is = done.stepped_is ∙ ap (λ (o : CommandOutcome). o.stepped) outcome;
          store = ap (λ (s : SessionState). s.store) done.new_is ∙ ap (λ (o : CommandOutcome). o.store) outcome;
          asking = ap (λ (s : SessionState). s.asking) done.new_is ∙ ap (λ (o : CommandOutcome). o.asking) outcome;
        }
    taken_by (Answers answers) is =
        let shows = subst (λ (a : Asked). Shows old.asking (displayed old command.Go) old.terminal (Ok a) new.terminal) is done.gives.shows in
        let outcome : answer old command.Go done.given ≡ answered old (Ok (all_done old.store (each (value_write old.store.layers old.at) (values_given (to_show old) answers))))
        = comes ∙ ap (heard_out old) is ∙ ap (answered old) (all_set answers new.terminal shows) in
        record {
          did_is = done.stepped_is ∙ ap (λ (o : CommandOutcome). o.stepped) outcome;
          store = ap (λ (s : SessionState). s.store) done.new_is ∙ ap (λ (o : CommandOutcome). o.store) outcome;
          asking = ap (λ (s : SessionState). s.asking) done.new_is ∙ ap (λ (o : CommandOutcome). o.asking) outcome;
        }

    -- what the user answers is done
    pub all_taken : Takes old done.given.asked did new
    all_taken = taken_by done.given.asked refl
