-- What the terminal counts of a wire that was served to its end.
use Rattle.std.proofs.Common.{◌≡◌, ℕ, List, [], ◌∷◌, ◌++◌, refl, sym, subst, ap, ◌∙◌, inl, inr}
use Rattle.std.specs.Prelude.{Option}
use Rattle.dc_words.specs.declared.stream.Line.{Line}
use Rattle.dc_outside.specs.Counts.{Counts}
use Rattle.dc_outside.specs.State.{LinkState}
use Rattle.dc_outside.specs.declared.link.Piece.{Piece}
use Rattle.dc_serve.specs.Execution.{Transition, IsExecution, state_after}
use Rattle.dc_serve.specs.LinkRun.{Answered}
use Rattle.dc_serve.specs.Said.{BreaksOff, said}
use Rattle.dc_serve.specs.declared.outcome.LinkEnd.{LinkEnd}
use Rattle.dc_serve.specs.declared.outcome.LinkEnd.TheVariants as link
use Rattle.dc_answer.specs.Answering.{AnswererState, IsAnswered, LosesWireLine, TakesWireLine, answerer_at}
use Rattle.dc_answer.specs.Counting.{TermCounts}
use Rattle.dc_answer.specs.declared.answerer.AnswerBreak.{AnswerBreak}
use Rattle.dc_answer.proofs.CountLemmas.{lost_counted, taken_counted}
use Rattle.dc_run.proofs.CrashLemmas.{last_after}

-- by the end of the wire
abbrev pub WireCounts : LinkEnd AnswerBreak → Counts → Counts → Type 0
WireCounts (link.Broken error) before now = TermCounts error before now
WireCounts ended before now = now ≡ before

-- lines that are heeded count nothing
lines_counted : (start : AnswererState) (turns : List (Transition AnswererState)) → IsExecution TakesWireLine start turns → (state_after start turns).terminal.link.counts ≡ start.terminal.link.counts
lines_counted start [] course = refl
lines_counted start (turn ∷ turns) course = lines_counted turn.new turns course.2 ∙ (taken_counted start turn.new turn.line turn.did course.0).0

module _ (start new : AnswererState) (turns : List (Transition AnswererState)) (rest : List Line) (talk : List Piece) (input : Option (List ℕ)) (before code : ℕ) (course : IsExecution TakesWireLine start turns) where
  unused : new ≡ state_after start turns → new.terminal.link.counts ≡ start.terminal.link.counts
  unused is = ap (λ (s : AnswererState). s.terminal.link.counts) is ∙ lines_counted start turns course

  behind : (gone : List (Transition AnswererState)) (last : Transition AnswererState) → turns ≡ gone ++ last ∷ [] → new ≡ last.new → new ≡ state_after start turns
  behind gone last are is = is ∙ sym (last_after start gone last) ∙ ap (state_after start) (sym are)

  broken_off : BreaksOff start turns (said talk) before new code → new ≡ state_after start turns
  broken_off (inl all) = all.1.state_is
  broken_off (inr unsaid) = behind unsaid.gone unsaid.last unsaid.turns_are unsaid.state_is

  ended_counts : (ended : LinkEnd AnswerBreak) → Answered LosesWireLine ended start turns rest talk input before new code → WireCounts ended start.terminal.link.counts new.terminal.link.counts
  ended_counts link.Done answered = unused answered.are_said.state_is
  ended_counts link.LinkFault (inl lost) = unused lost.answered.are_said.state_is
  ended_counts link.LinkFault (inr cut) = unused (behind cut.answered.gone cut.answered.last cut.answered.turns_are cut.answered.state_is)
  ended_counts link.TooLong answered = unused answered.answered.are_said.state_is
  ended_counts link.OutOfMemory answered = unused (broken_off answered)
  ended_counts (link.Broken error) answered =
      subst (λ (c : Counts). TermCounts error c new.terminal.link.counts) (lines_counted start turns course) (lost_counted (state_after start turns) new answered.line error answered.broke).0

pub wire_counts : (start terminal old new : LinkState) (ended : LinkEnd AnswerBreak) → IsAnswered start terminal old new ended → WireCounts ended start.counts terminal.counts
wire_counts start terminal old new ended is =
    let ran = is.serves.run in
    subst (λ (l : LinkState). WireCounts ended start.counts l.counts) (sym is.terminal_is)
    (ended_counts (answerer_at start) is.state ran.transitions ran.rest ran.pieces old.input 0 is.code ran.course ended ran.answered)
