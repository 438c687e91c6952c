-- The bytes of the link, the files and what is typed determine a run.
use Rattle.std.proofs.Common.{◌≡◌, ◌⊎◌, inl, inr, ℕ, true, false, List, [], ◌∷◌, ◌++◌, Option, None, Some, refl, ap, sym, subst, ◌∙◌, append_assoc, append-nil}
use Rattle.std.specs.Io.KnownBytes.{prepend_known}
use Rattle.std.proofs.lemmas.Bool.{cases_Bool}
use Rattle.dc_words.specs.declared.stream.Line.{Line}
use Rattle.dc_words.specs.Stream.{whole_lines, rest_of, line_of_rest, all_lines}
use Rattle.dc_words.proofs.StreamLemmas.{whole_lines-append}
use Rattle.dc_outside.specs.Disk.{Disk}
use Rattle.dc_outside.specs.Talk.{got}
use Rattle.dc_outside.specs.declared.files.FilesCall.{FilesCall}
use Rattle.dc_outside.specs.declared.link.Piece.{Piece}
use Rattle.dc_serve.specs.Execution.{Transition, lines_of, state_after, is_stop, stops, replies, add_reply, last_code_from, code_after, IsExecution}
use Rattle.dc_serve.specs.LinkRun.{IsLinkRun, AreServed}
use Rattle.dc_serve.specs.declared.machine.Response.{Response}
use Rattle.dc_serve.specs.declared.outcome.LinkEnd.TheVariants.{Done}
use Rattle.dc_session.specs.Alike.{AreAlike, AreTransitionsAlike, AreFilesAlike, EndAlike, TellSame}
use Rattle.dc_session.specs.Machine.{TakesLine, Aborts}
use Rattle.dc_session.specs.SessionState.{SessionState}
use Rattle.dc_session.proofs.AlikeLaws.{GoAlike, TurnsAlike, none_alike, more_alike, takes_alike}
use Rattle.dc_session.proofs.Determined.{IsTold, takes_told}

-- ---- turns that both come to an end

-- all lines had their turns, or one of them was a stop
abbrev pub AreThrough : List (Transition SessionState) → List Line → Type 0
AreThrough transitions rest = (stops transitions ≡ true) ⊎ (rest ≡ [])

through_later : (transition : Transition SessionState) (transitions : List (Transition SessionState)) (rest : List Line) → is_stop transition.did ≡ false → AreThrough (transition ∷ transitions) rest → AreThrough transitions rest
through_later transition transitions rest on (inl stop) = inl (rw on at stop)
through_later transition transitions rest on (inr none) = inr none

not_through : (transition : Transition SessionState) (lines rest : List Line) → rest ≡ transition.line ∷ lines → AreThrough [] rest → ⊥
not_through transition lines rest is (inl stop) = cc
not_through transition lines rest is (inr none) = cc

both_none : (start other : SessionState) (a b : List (Transition SessionState)) → a ≡ [] → b ≡ [] → GoAlike start other a b
both_none start other a b first second = rw (first, second) (none_alike start other)

-- A machine does the same at a line in sessions that are alike and of which so much is told, where it leaves the same files, and as much is told of
-- what it leaves.
pub record DoesAlike (steps : SessionState → Line → Response → SessionState → Type 0) (Told : SessionState → Type 0) : Type 0 where
  pub alike : (old other : SessionState) → AreAlike old other → Told old → (did again : Response) (new left : SessionState) → new.files ≡ left.files → (line : Line) → steps old line did new → steps other line again left
      → TurnsAlike old other line did again new left
  pub told : (old new : SessionState) (line : Line) (did : Response) → Told old → steps old line did new → Told new

module _ (steps : SessionState → Line → Response → SessionState → Type 0) (Told : SessionState → Type 0) (does : DoesAlike steps Told) where
  through_alike : (start other : SessionState) (a b : List (Transition SessionState)) (later rest : List Line) → AreAlike start other → Told start → IsExecution steps start a → IsExecution steps other b
      → lines_of a ++ later ≡ lines_of b ++ rest → AreThrough a later → AreThrough b rest → AreFilesAlike a b → GoAlike start other a b
  through_alike start other [] [] later rest alike told first second lines one_through two_through files = none_alike start other
  through_alike start other [] (transition ∷ b) later rest alike told first second lines one_through two_through files = absurd (not_through transition (lines_of b ++ rest) later lines one_through)
  through_alike start other (transition ∷ a) [] later rest alike told first second lines one_through two_through files = absurd (not_through transition (lines_of a ++ later) rest (sym lines) two_through)
  through_alike start other (one ∷ a) (two ∷ b) later rest alike told first second lines one_through two_through files =
      let line : one.line ≡ two.line = cc in
      let more : lines_of a ++ later ≡ lines_of b ++ rest = cc in
      let takes : steps start two.line one.did one.new = subst (λ (l : Line). steps start l one.did one.new) line first.0 in
      let here = does.alike start other alike told one.did two.did one.new two.new files.0 two.line takes second.0 in
      more_alike start other one two a b two.line here (elim (cases_Bool (is_stop one.did)) [
        | inl stop ↦ both_none one.new two.new a b (first.1 stop) (second.1 (ap is_stop (sym here.does) ∙ stop))
        | inr on ↦
            through_alike one.new two.new a b later rest here.leaves (does.told start one.new two.line one.did told takes) first.2 second.2 more
            (through_later one a later on one_through) (through_later two b rest (ap is_stop (sym here.does) ∙ on) two_through) files.1
      ])

-- ---- what alike turns say and leave

same_replies : (a b : List (Transition SessionState)) → AreTransitionsAlike a b → replies a ≡ replies b
same_replies [] [] alike = refl
same_replies [] (transition ∷ b) alike = absurd alike
same_replies (transition ∷ a) [] alike = absurd alike
same_replies (one ∷ a) (two ∷ b) alike = λ i. add_reply (alike.0 i) (same_replies a b alike.2 i)

same_code : (code number : ℕ) (a b : List (Transition SessionState)) → code ≡ number → AreTransitionsAlike a b → last_code_from code a ≡ last_code_from number b
same_code code number [] [] same alike = same
same_code code number [] (transition ∷ b) same alike = absurd alike
same_code code number (transition ∷ a) [] same alike = absurd alike
same_code code number (one ∷ a) (two ∷ b) same alike = same_code (code_after code one.did) (code_after number two.did) a b (λ i. code_after (same i) (alike.0 i)) alike.2

left_alike : (start other : SessionState) (a b : List (Transition SessionState)) → AreAlike start other → AreTransitionsAlike a b → AreAlike (state_after start a) (state_after other b)
left_alike start other [] [] same alike = same
left_alike start other [] (transition ∷ b) same alike = absurd alike
left_alike start other (transition ∷ a) [] same alike = absurd alike
left_alike start other (one ∷ a) (two ∷ b) same alike = left_alike one.new two.new a b alike.1 alike.2

-- ---- runs

-- the whole lines of a front are the first ones of all
all_lines-append : (front back : List ℕ) → all_lines (front ++ back) ≡ whole_lines front ++ (whole_lines (rest_of front ++ back) ++ line_of_rest (rest_of (front ++ back)))
all_lines-append front back =
    ap (λ (l : List Line). l ++ line_of_rest (rest_of (front ++ back))) (whole_lines-append front back) ∙ append_assoc (whole_lines front) (whole_lines (rest_of front ++ back)) (line_of_rest (rest_of (front ++ back)))

front_taken : (front : List ℕ) (left : Option (List ℕ)) (input : List ℕ) → Some input ≡ prepend_known front left → (back : List ℕ) × (input ≡ front ++ back)
front_taken front None input took = absurd (cc)
front_taken front (Some back) input took = (back, cc)

module _ {B : Type 0} (steps : SessionState → Line → Response → SessionState → Type 0) (aborts : SessionState → Line → B → SessionState → Type 0)
    (input : List ℕ) (talk new_talk : Option (List Piece)) (left : Option (List ℕ)) (start new : SessionState) (before code : ℕ) (run : IsLinkRun steps aborts talk new_talk (Some input) left start Done new before code) where
  -- its lines are the first ones of all, and it was through with them
  abbrev pub IsThrough : Type 0
  IsThrough = (rest : List Line) × (lines_of run.transitions ++ rest ≡ all_lines input) × AreThrough run.transitions rest

  stopped : AreServed run.pieces (Some input) (lines_of run.transitions ++ run.rest) → stops run.transitions ≡ true → IsThrough
  stopped (inl lines) stop =
      let cut = front_taken (got run.pieces) left input run.took in
      let behind : List Line = whole_lines (rest_of (got run.pieces) ++ cut.0) ++ line_of_rest (rest_of (got run.pieces ++ cut.0)) in
      (run.rest ++ behind, sym (append_assoc (lines_of run.transitions) run.rest behind) ∙ ap (λ (l : List Line). l ++ behind) lines ∙ sym (all_lines-append (got run.pieces) cut.0) ∙ ap all_lines (sym cut.1), inl stop)
  stopped (inr all) stop = (run.rest, all.0 ∙ ap all_lines all.1.whole, inl stop)

  pub is_through : IsThrough
  is_through = elim run.answered.read [
    | inl stop ↦ stopped run.served stop
    | inr read ↦ ([], append-nil (lines_of run.transitions) ∙ read.0 ∙ ap all_lines read.1.whole, inr refl)
  ]

-- what two runs say and leave is alike, and they tell the same
abbrev pub RunAlike : (pieces others : List Piece) (code other_code : ℕ) (start other new last : SessionState) → Type 0
RunAlike pieces others code other_code start other new last = EndAlike pieces others code other_code new last × TellSame start.err new.err other.err last.err

module _ {B : Type 0} (steps : SessionState → Line → Response → SessionState → Type 0) (aborts : SessionState → Line → B → SessionState → Type 0) (Told : SessionState → Type 0) (does : DoesAlike steps Told) where
  pub runs_alike : (start other new last : SessionState) (input : List ℕ) (talk new_talk told new_told : Option (List Piece)) (left rest : Option (List ℕ)) (before code number : ℕ)
      → Told start → AreAlike start other
      → (one : IsLinkRun steps aborts talk new_talk (Some input) left start Done new before code) → (two : IsLinkRun steps aborts told new_told (Some input) rest other Done last before number)
      → AreFilesAlike one.transitions two.transitions → RunAlike one.pieces two.pieces code number start other new last
  runs_alike start other new last input talk new_talk told new_told left rest before code number all_told alike one two files =
      let first = is_through steps aborts input talk new_talk left start new before code one in
      let second = is_through steps aborts input told new_told rest other last before number two in
      let both = through_alike steps Told does start other one.transitions two.transitions first.0 second.0 alike all_told one.course two.course (first.1 ∙ sym second.1) first.2 second.2 files in
      let one_said = one.answered.are_said in
      let two_said = two.answered.are_said in (
        record {
          replies = one_said.pieces_are ∙ same_replies one.transitions two.transitions both.0 ∙ sym two_said.pieces_are;
          code_is = one_said.code_is ∙ same_code before before one.transitions two.transitions refl both.0 ∙ sym two_said.code_is;
          states = subst (λ (s : SessionState). AreAlike new s) (sym two_said.state_is)
              (subst (λ (s : SessionState). AreAlike s (state_after other two.transitions)) (sym one_said.state_is) (left_alike start other one.transitions two.transitions alike both.0));
        },
        subst (λ (s : SessionState). TellSame start.err new.err other.err s.err) (sym two_said.state_is)
            (subst (λ (s : SessionState). TellSame start.err s.err other.err (state_after other two.transitions).err) (sym one_said.state_is) both.1),
      )

-- ---- a session by itself

pub takes_does : (disk : Disk) → DoesAlike TakesLine (λ (s : SessionState). IsTold disk s.files.view)
takes_does disk = record {
  alike = λ old other alike told did again new left files line. takes_alike disk old other alike told did again new left files line;
  told = λ old new line did told takes. takes_told disk old told did new line takes;
}
