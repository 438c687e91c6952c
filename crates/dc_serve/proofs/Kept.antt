-- What each turn keeps, a run keeps.
use Rattle.std.proofs.Common.{◌≡◌, inl, inr, ℕ, List, [], ◌∷◌, ◌++◌, refl, ap, sym, ◌∙◌, Option}
use Rattle.dc_words.specs.declared.stream.Line.{Line}
use Rattle.dc_outside.specs.declared.link.Piece.{Piece}
use Rattle.dc_serve.specs.declared.machine.Response.{Response}
use Rattle.dc_serve.specs.declared.outcome.LinkEnd.{LinkEnd}
use Rattle.dc_serve.specs.declared.outcome.LinkEnd.TheVariants.{Done, OutOfMemory, LinkFault, TooLong, Broken}
use Rattle.dc_serve.specs.declared.machine.Response.TheVariants.{Silent, Replied}
use Rattle.dc_serve.specs.Execution.{Transition, state_after, add_reply, replies, IsExecution}
use Rattle.dc_serve.specs.LinkRun.{IsLinkRun, Answered}
use Rattle.dc_serve.specs.Said.{said}

module _ {S B : Type 0} (steps : S → Line → Response → S → Type 0) (aborts : S → Line → B → S → Type 0) (keeps : S → S → Type 0)
    (same : (s : S) → keeps s s) (chain : (a b c : S) → keeps a b → keeps b c → keeps a c)
    (step : (old new : S) (line : Line) (did : Response) → steps old line did new → keeps old new)
    (broke : (old new : S) (line : Line) (error : B) → aborts old line error new → keeps old new) where
  course_keeps : (start : S) (transitions : List (Transition S)) → IsExecution steps start transitions → keeps start (state_after start transitions)
  course_keeps start [] course = same start
  course_keeps start (transition ∷ transitions) course = chain start transition.new (state_after transition.new transitions) (step start transition.new transition.line transition.did course.0) (course_keeps transition.new transitions course.2)

  after_last : (start : S) (transitions : List (Transition S)) (last : Transition S) → state_after start (transitions ++ last ∷ []) ≡ last.new
  after_last start [] last = refl
  after_last start (transition ∷ transitions) last = after_last transition.new transitions last

  at_last : (start new : S) (transitions gone : List (Transition S)) (last : Transition S) → transitions ≡ gone ++ last ∷ [] → new ≡ last.new → new ≡ state_after start transitions
  at_last start new transitions gone last are is = is ∙ sym (after_last start gone last) ∙ ap (λ (t : List (Transition S)). state_after start t) (sym are)

  keeps_to : (start new : S) (transitions : List (Transition S)) → IsExecution steps start transitions → new ≡ state_after start transitions → keeps start new
  keeps_to start new transitions course is = rw is (course_keeps start transitions course)

  answered_keeps : (end : LinkEnd B) (start new : S) (transitions : List (Transition S)) (rest : List Line) (talk : List Piece) (input : Option (List ℕ)) (before code : ℕ)
      → IsExecution steps start transitions → Answered aborts end start transitions rest talk input before new code → keeps start new
  answered_keeps Done start new transitions rest talk input before code course is = keeps_to start new transitions course is.are_said.state_is
  answered_keeps LinkFault start new transitions rest talk input before code course is = elim is [
    | inl lost ↦ keeps_to start new transitions course lost.answered.are_said.state_is
    | inr cut ↦ keeps_to start new transitions course (at_last start new transitions cut.answered.gone cut.answered.last cut.answered.turns_are cut.answered.state_is)
  ]
  answered_keeps OutOfMemory start new transitions rest talk input before code course is = elim is [
    | inl all ↦ keeps_to start new transitions course all.1.state_is
    | inr unsaid ↦ keeps_to start new transitions course (at_last start new transitions unsaid.gone unsaid.last unsaid.turns_are unsaid.state_is)
  ]
  answered_keeps TooLong start new transitions rest talk input before code course is = keeps_to start new transitions course is.answered.are_said.state_is
  answered_keeps (Broken error) start new transitions rest talk input before code course is =
      chain start (state_after start transitions) new (course_keeps start transitions course) (broke (state_after start transitions) new is.line error is.broke)

  pub run_keeps : (talk new_talk : Option (List Piece)) (input left : Option (List ℕ)) (start new : S) (end : LinkEnd B) (before code : ℕ)
      → IsLinkRun steps aborts talk new_talk input left start end new before code → keeps start new
  run_keeps talk new_talk input left start new end before code run = answered_keeps end start new run.transitions run.rest run.pieces input before code run.course run.answered

-- a machine that never replies says nothing
pub nothing_said : {S : Type 0} (steps : S → Line → Response → S → Type 0) → ((old new : S) (line : Line) (did : Response) → steps old line did new → did ≡ Silent)
    → (start : S) (transitions : List (Transition S)) → IsExecution steps start transitions → replies transitions ≡ []
nothing_said steps silent start [] course = refl
nothing_said steps silent start (transition ∷ transitions) course =
    ap (λ (d : Response). add_reply d (replies transitions)) (silent start transition.new transition.line transition.did course.0) ∙ nothing_said steps silent transition.new transitions course.2

module _ {S B : Type 0} (steps : S → Line → Response → S → Type 0) (aborts : S → Line → B → S → Type 0)
    (silent : (old new : S) (line : Line) (did : Response) → steps old line did new → did ≡ Silent) where
  course_front : (start : S) (gone : List (Transition S)) (last : Transition S) → IsExecution steps start (gone ++ last ∷ []) → replies gone ≡ [] × last.did ≡ Silent
  course_front start [] last course = (refl, silent start last.new last.line last.did course.0)
  course_front start (transition ∷ gone) last course =
      let later = course_front transition.new gone last course.2 in
      (ap (λ (d : Response). add_reply d (replies gone)) (silent start transition.new transition.line transition.did course.0) ∙ later.0, later.1)

  front_of : (start : S) (transitions gone : List (Transition S)) (last : Transition S) → IsExecution steps start transitions → transitions ≡ gone ++ last ∷ [] → replies gone ≡ [] × last.did ≡ Silent
  front_of start transitions gone last course are = course_front start gone last (rw (← are) course)

  never_replies : (did : Response) (code : ℕ) (text : List ℕ) → did ≡ Silent → did ≡ Replied code text → ⊥
  never_replies did code text first second = cc

  answered_says_nothing : (end : LinkEnd B) (start new : S) (transitions : List (Transition S)) (rest : List Line) (talk : List Piece) (input : Option (List ℕ)) (before code : ℕ)
      → IsExecution steps start transitions → Answered aborts end start transitions rest talk input before new code → said talk ≡ []
  answered_says_nothing Done start new transitions rest talk input before code course is = is.are_said.pieces_are ∙ nothing_said steps silent start transitions course
  answered_says_nothing LinkFault start new transitions rest talk input before code course is = elim is [
    | inl lost ↦ lost.answered.are_said.pieces_are ∙ nothing_said steps silent start transitions course
    | inr cut ↦ absurd (never_replies cut.answered.last.did code cut.answered.text (front_of start transitions cut.answered.gone cut.answered.last course cut.answered.turns_are).1 cut.answered.replied)
  ]
  answered_says_nothing OutOfMemory start new transitions rest talk input before code course is = elim is [
    | inl all ↦ all.1.pieces_are ∙ nothing_said steps silent start transitions course
    | inr unsaid ↦ unsaid.pieces_are ∙ (front_of start transitions unsaid.gone unsaid.last course unsaid.turns_are).0
  ]
  answered_says_nothing TooLong start new transitions rest talk input before code course is = is.answered.are_said.pieces_are ∙ nothing_said steps silent start transitions course
  answered_says_nothing (Broken error) start new transitions rest talk input before code course is = is.pieces_are ∙ nothing_said steps silent start transitions course

  -- so its run says nothing
  pub run_says_nothing : (talk new_talk : Option (List Piece)) (input left : Option (List ℕ)) (start new : S) (end : LinkEnd B) (before code : ℕ)
      → (run : IsLinkRun steps aborts talk new_talk input left start end new before code) → said run.pieces ≡ []
  run_says_nothing talk new_talk input left start new end before code run = answered_says_nothing end start new run.transitions run.rest run.pieces input before code run.course run.answered
