-- What comes on a wire that is read to its end, and what is typed, determine what is said there.
use Rattle.std.proofs.Common.{◌≡◌, ◌⊎◌, inl, inr, ℕ, Bool, true, false, List, [], ◌∷◌, ◌++◌, Option, Some, refl, ap, sym, subst, ◌∙◌}
use Rattle.std.specs.Prelude.{None}
use Rattle.dc_words.specs.Stream.{all_lines}
use Rattle.dc_words.specs.declared.stream.Line.{Line}
use Rattle.dc_outside.specs.Talk.{got}
use Rattle.dc_outside.specs.declared.link.Piece.{Piece}
use Rattle.dc_pass.specs.declared.calls.WireCall.{WireCall}
use Rattle.dc_pass.specs.declared.calls.WireCall.TheVariants.{Ask, Tell}
use Rattle.dc_serve.specs.Execution.{Transition, lines_of, state_after, is_stop, stops, replies, add_reply, IsExecution}
use Rattle.dc_serve.specs.LinkRun.{IsLinkRun}
use Rattle.dc_serve.specs.Said.{said}
use Rattle.dc_serve.specs.declared.machine.Response.{Response}
use Rattle.dc_serve.specs.declared.outcome.LinkEnd.TheVariants.{Done}
use Rattle.dc_teletype.specs.TerminalLines.{TerminalState}
use Rattle.dc_answer.specs.Alike.{AreAlike, AreTransitionsAlike}
use Rattle.dc_answer.specs.Answering.{AnswererState, HeedsCompleted, LosesWireLine, TakesWireLine}
use Rattle.dc_answer.specs.declared.answerer.AnswerBreak.{AnswerBreak}
use Rattle.dc_answer.proofs.AlikeLemmas.{courses_alike}

-- ---- no line stops the reading

heeds_on : (completed : Option WireCall) (old new : TerminalState) (did : Response) → HeedsCompleted completed old did new → is_stop did ≡ false
heeds_on None old new did heeds = ap is_stop heeds.0
heeds_on (Some (Ask title backup shown)) old new did heeds = ap is_stop heeds.2
heeds_on (Some (Tell text)) old new did heeds = ap is_stop heeds.1

never_stops : (start : AnswererState) (transitions : List (Transition AnswererState)) → IsExecution TakesWireLine start transitions → stops transitions ≡ false
never_stops start [] course = refl
never_stops start (one ∷ transitions) course =
    let on : is_stop one.did ≡ false = heeds_on course.0.completed start.terminal one.new.terminal one.did course.0.heeds in
    rw on (never_stops one.new transitions course.2)

-- ---- what is alike turn by turn

same_replies : (a b : List (Transition AnswererState)) → AreTransitionsAlike a b → replies a ≡ replies b
same_replies [] [] alike = refl
same_replies [] (two ∷ b) alike = absurd alike
same_replies (one ∷ a) [] alike = absurd alike
same_replies (one ∷ a) (two ∷ b) alike = λ i. add_reply (alike.0 i) (same_replies a b alike.2 i)

left_alike : (start other : AnswererState) (a b : List (Transition AnswererState)) → AreAlike start other → AreTransitionsAlike a b → AreAlike (state_after start a) (state_after other b)
left_alike start other [] [] same alike = same
left_alike start other [] (two ∷ b) same alike = absurd alike
left_alike start other (one ∷ a) [] same alike = absurd alike
left_alike start other (one ∷ a) (two ∷ b) same alike = left_alike one.new two.new a b alike.1 alike.2

-- ---- whole wires

module _ (input : List ℕ) (talk new_talk : Option (List Piece)) (left : Option (List ℕ)) (start new : AnswererState) (before code : ℕ)
    (run : IsLinkRun TakesWireLine LosesWireLine talk new_talk (Some input) left start Done new before code) where
  no_stop : stops run.transitions ≡ true → ⊥
  no_stop stop = let never : stops run.transitions ≡ false = never_stops start run.transitions run.course in cc

  lines_are : lines_of run.transitions ≡ all_lines input
  lines_are = elim run.answered.read [
    | inl stop ↦ absurd (no_stop stop)
    | inr read ↦ read.0 ∙ ap all_lines read.1.whole
  ]

-- two that both come to the end of the same bytes say the same, and leave what is alike
pub record ServedAlike (pieces others : List Piece) (new last : AnswererState) : Type 0 where
  pub replies : said pieces ≡ said others
  pub states : AreAlike new last

pub served_alike : (input : List ℕ) (talk new_talk told new_told : Option (List Piece)) (left rest : Option (List ℕ)) (start other new last : AnswererState) (before code after number : ℕ) → AreAlike start other
    → (one : IsLinkRun TakesWireLine LosesWireLine talk new_talk (Some input) left start Done new before code)
    → (two : IsLinkRun TakesWireLine LosesWireLine told new_told (Some input) rest other Done last after number) → ServedAlike one.pieces two.pieces new last
served_alike input talk new_talk told new_told left rest start other new last before code after number alike one two =
    let lines : lines_of one.transitions ≡ lines_of two.transitions
    = lines_are input talk new_talk left start new before code one ∙ sym (lines_are input told new_told rest other last after number two) in
    let same = courses_alike start other one.transitions two.transitions alike one.course two.course lines in
    record {
      replies = one.answered.are_said.pieces_are ∙ same_replies one.transitions two.transitions same ∙ sym two.answered.are_said.pieces_are;
      states = subst (λ (s : AnswererState). AreAlike new s) (sym two.answered.are_said.state_is)
          (subst (λ (s : AnswererState). AreAlike s (state_after other two.transitions)) (sym one.answered.are_said.state_is)
          (left_alike start other one.transitions two.transitions alike same));
    }
