-- How the terminal counts what is done there.
use Rattle.std.proofs.Common.{◌≡◌, ℕ, List, ◌++◌, ◌∷◌, [], Option, None, Some, inl, inr, ap}
use Rattle.std.specs.Prelude.{Result, Ok, Err}
use Rattle.dc_text.specs.Ascii.{newline}
use Rattle.dc_outside.specs.State.{LinkState}
use Rattle.dc_outside.specs.declared.link.LinkError.{LinkError}
use Rattle.dc_outside.specs.declared.link.LinkError.TheVariants as failed
use Rattle.dc_words.specs.declared.stream.Line.{Line}
use Rattle.dc_serve.specs.declared.machine.Response.{Response}
use Rattle.dc_teletype.specs.Dialogue.{SendsText}
use Rattle.dc_teletype.specs.TerminalLines.{TerminalState, CallCounts}
use Rattle.dc_pass.specs.declared.calls.WireCall.{WireCall}
use Rattle.dc_pass.specs.declared.calls.WireCall.TheVariants.{Ask, Tell}
use Rattle.dc_answer.specs.Answering.{AnswererState, Heeds, HeedsCompleted, StopsHeeding, TakesWireLine, LosesWireLine}
use Rattle.dc_answer.specs.Counting.{TermCounts}
use Rattle.dc_answer.specs.declared.answerer.AnswerBreak.{AnswerBreak}
use Rattle.dc_answer.specs.declared.answerer.AnswerBreak.TheVariants as break

-- a call of this answer was counted, and the program stays
abbrev Counted : Result (Unit {0}) LinkError → LinkState → LinkState → Type 0
Counted result old new = CallCounts result old.counts new.counts × (new.program ≡ old.program)

sends_counted : (text : List ℕ) (old new : LinkState) (result : Result (Unit {0}) LinkError) → SendsText text old new result → Counted result old new
sends_counted text old new (Ok done) said = (ap (λ (k : LinkState). k.counts) said, ap (λ (k : LinkState). k.program) said)
sends_counted text old new (Err failed.Failed) said = (said.rose, ap (λ (k : LinkState). k.program) said.state)
sends_counted text old new (Err failed.OutOfMemory) said = (said.1, ap (λ (k : LinkState). k.program) said.0)

heeds_counted : (call : WireCall) (old new : TerminalState) (did : Response) → Heeds call old did new → Counted (Ok tt) old.link new.link
heeds_counted (Ask title backup shown) old new did heeds = (heeds.1.counts, heeds.1.program)
heeds_counted (Tell text) old new did heeds = sends_counted (text ++ newline ∷ []) old.link new.link (Ok tt) heeds.0.said

same_counted : (old new : TerminalState) → new ≡ old → Counted (Ok tt) old.link new.link
same_counted old new same = (ap (λ (t : TerminalState). t.link.counts) same, ap (λ (t : TerminalState). t.link.program) same)

completed_counted : (completed : Option WireCall) (old new : TerminalState) (did : Response) → HeedsCompleted completed old did new → Counted (Ok tt) old.link new.link
completed_counted None old new did heeds = same_counted old new heeds.1
completed_counted (Some call) old new did heeds = heeds_counted call old new did heeds

pub taken_counted : (old new : AnswererState) (line : Line) (did : Response) → TakesWireLine old line did new
    → (new.terminal.link.counts ≡ old.terminal.link.counts) × (new.terminal.link.program ≡ old.terminal.link.program)
taken_counted old new line did takes = completed_counted takes.completed old.terminal new.terminal did takes.heeds

stops_counted : (call : WireCall) (error : LinkError) (old new : TerminalState) → StopsHeeding call error old new → Counted (Err error) old.link new.link
stops_counted (Ask title backup shown) failed.Failed old new stops = (stops.counts, stops.program)
stops_counted (Ask title backup shown) failed.OutOfMemory old new stops = (stops.counts, stops.program)
stops_counted (Tell text) error old new stops = sends_counted (text ++ newline ∷ []) old.link new.link (Err error) stops.said

pub lost_counted : (old new : AnswererState) (line : Line) (error : AnswerBreak) → LosesWireLine old line error new
    → TermCounts error old.terminal.link.counts new.terminal.link.counts × (new.terminal.link.program ≡ old.terminal.link.program)
lost_counted old new line (break.Wire number) lost = same_counted old.terminal new.terminal lost.terminal_is
lost_counted old new line break.Term lost = stops_counted lost.call failed.Failed old.terminal new.terminal lost.stops
lost_counted old new line break.OutOfMemory (inl same) = let kept = same_counted old.terminal new.terminal same in (inr kept.0, kept.1)
lost_counted old new line break.OutOfMemory (inr (inl stopped)) = stops_counted stopped.call failed.OutOfMemory old.terminal new.terminal stopped.stops
lost_counted old new line break.OutOfMemory (inr (inr unprinted)) =
    let kept = heeds_counted unprinted.call old.terminal new.terminal unprinted.did unprinted.heeds in (inr kept.0, kept.1)
