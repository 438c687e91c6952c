-- Each question of a dialogue has its answer.
use Rattle.std.proofs.Common.{◌≡◌, ℕ, ◌+◌, Bool, List, [], ◌∷◌, ◌++◌, refl, sym, inl, inr, subst, ◌∙◌, append_assoc, append-nil, Option, Some, None, Ok}
use Rattle.std.specs.Prelude.{nat_le}
use Rattle.std.proofs.lemmas.Bool.{cases_Bool}
use Rattle.dc_teletype.specs.Answered.{CanBe, HaveAnswers}
use Rattle.dc_frontend.specs.declared.shown.Shown.{Shown}
use Rattle.dc_teletype.specs.declared.teletype.Answer.{Answer}
use Rattle.dc_teletype.specs.declared.teletype.Answer.TheVariants.{Keep, Value}
use Rattle.dc_teletype.specs.declared.teletype.Asked.TheVariants.{Answers, Back}
use Rattle.dc_outside.specs.declared.link.Piece.{Piece}
use Rattle.dc_teletype.specs.declared.terminal.TerminalLine.{TerminalLine}
use Rattle.dc_teletype.specs.declared.terminal.TerminalLine.TheVariants.{Whole, Cut}
use Rattle.dc_teletype.specs.TerminalLines.{TypeAhead}
use Rattle.dc_teletype.specs.declared.answering.Reading.{Reading}
use Rattle.dc_teletype.specs.declared.answering.Reading.TheVariants as reading
use Rattle.dc_teletype.specs.Dialogue.{Step, Stage, Waits, Over, Goes, IsDialogue, turn, opening, puts, after_reading, reading_of, most_unusable}
use Rattle.dc_teletype.proofs.FirstLineLemmas.{same_some}

module _ (backup : Bool) where
  -- one more question has an answer
  have_more : (gone : List Shown) (answers : List Answer) (shown : Shown) (answer : Answer) → HaveAnswers backup gone answers → CanBe backup shown answer → HaveAnswers backup (gone ++ shown ∷ []) (answers ++ answer ∷ [])
  have_more [] [] shown answer have can = (can, record {})
  have_more [] (other ∷ answers) shown answer have can = absurd have
  have_more (first ∷ gone) [] shown answer have can = absurd have
  have_more (first ∷ gone) (other ∷ answers) shown answer have can = (have.0, have_more gone answers shown answer have.1 can)

  module _ (questions : List Shown) where
    -- the questions that are behind the dialogue have their answers
    abbrev AreAnswered : Stage → Type 0
    AreAnswered (Waits shown unusable others answers) = (gone : List Shown) × (questions ≡ gone ++ shown ∷ others) × HaveAnswers backup gone answers
    AreAnswered (Over (Answers answers)) = HaveAnswers backup questions answers
    AreAnswered (Over Back) = Unit {0}

    puts_answered : (said : List ℕ) (gone others : List Shown) (answers : List Answer) → questions ≡ gone ++ others → HaveAnswers backup gone answers → AreAnswered (puts said others answers).stage
    puts_answered said gone [] answers is have = subst (λ (l : List Shown). HaveAnswers backup l answers) (sym (is ∙ append-nil gone)) have
    puts_answered said gone (shown ∷ others) answers is have = (gone, is, have)

    module _ (shown : Shown) (unusable : ℕ) (others : List Shown) (answers : List Answer) (waits : AreAnswered (Waits shown unusable others answers)) where
      given : (said : List ℕ) (answer : Answer) → CanBe backup shown answer → AreAnswered (puts said others (answers ++ answer ∷ [])).stage
      given said answer can =
          puts_answered said (waits.0 ++ shown ∷ []) others (answers ++ answer ∷ []) (waits.1 ∙ sym (append_assoc waits.0 (shown ∷ []) others)) (have_more waits.0 answers shown answer waits.2 can)

      after_answered : (read : Reading) → ((value : List ℕ) → read ≡ reading.Value value → CanBe backup shown (Value value)) → AreAnswered (after_reading read shown unusable others answers).stage
      after_answered reading.Back can = record {}
      after_answered reading.Keep can = given _ Keep (record {})
      after_answered (reading.Value value) can = given _ (Value value) (can value refl)
      after_answered reading.Unusable can = elim (cases_Bool (nat_le most_unusable (unusable + 1))) [
        | inl last ↦ rw last (given _ Keep (record {}))
        | inr more ↦ rw more waits
      ]

      reading_can : (came : Option TerminalLine) (value : List ℕ) → reading_of shown backup came ≡ reading.Value value → CanBe backup shown (Value value)
      reading_can None value is = absurd (cc)
      reading_can (Some Cut) value is = absurd (cc)
      reading_can (Some (Whole line)) value is = (line, is)

    turn_answered : (stage : Stage) (came : Option TerminalLine) (next : Step) → turn backup stage came ≡ Some next → AreAnswered stage → AreAnswered next.stage
    turn_answered (Over asked) came next is waits = absurd (cc)
    turn_answered (Waits shown unusable others answers) came next is waits =
        subst (λ (s : Step). AreAnswered s.stage) (same_some _ next is)
        (after_answered shown unusable others answers waits (reading_of shown backup came) (reading_can shown unusable others answers waits came))

    goes_answered : (came : List (Option TerminalLine)) (start new : Step) (ahead last : TypeAhead) (pieces : List Piece) → Goes backup start ahead came pieces new last → AreAnswered start.stage → AreAnswered new.stage
    goes_answered [] start new ahead last pieces goes waits = subst (λ (s : Step). AreAnswered s.stage) (sym goes.1) waits
    goes_answered (came ∷ more) start new ahead last pieces (reads, later, between, next, pieces_are, here, turn_is, goes) waits =
        goes_answered more next new between last later goes (turn_answered start.stage came next turn_is waits)

  pub all_answered : (title : List ℕ) (questions : List Shown) (old new : TypeAhead) (talk new_talk : Option (List Piece)) (input left : Option (List ℕ)) (answers : List Answer)
      → IsDialogue backup (opening title questions) old new talk new_talk input left (Ok (Answers answers)) → HaveAnswers backup questions answers
  all_answered title questions old new talk new_talk input left answers held =
      subst (AreAnswered questions) held.ends.0
      (goes_answered questions held.came (opening title questions) held.step old held.ahead held.gone held.goes (puts_answered questions _ [] questions [] refl (record {})))
