-- The other end of the wire: what it does with the lines that a session sends (debconf(7), Frontends).
use Rattle.std.specs.Prelude.{◌≡◌, ◌⊎◌, ℕ, false, List, [], ◌∷◌, ◌++◌, Option, Some, None, Result, Ok, Err}
use Rattle.dc_text.specs.Ascii.{newline}
use Rattle.dc_text.specs.Lines.{text_of}
use Rattle.dc_words.specs.declared.stream.Line.{Line}
use Rattle.dc_outside.specs.State.{LinkState}
use Rattle.dc_outside.specs.declared.link.LinkError.{LinkError}
use Rattle.dc_outside.specs.declared.link.LinkError.TheVariants as failed
use Rattle.dc_serve.specs.LinkRun.{ServesLink}
use Rattle.dc_serve.specs.declared.machine.Response.{Response}
use Rattle.dc_serve.specs.declared.machine.Response.TheVariants.{Silent, Replied}
use Rattle.dc_serve.specs.declared.outcome.LinkEnd.{LinkEnd}
use Rattle.dc_teletype.specs.Dialogue.{HeldDialogue, SendsText}
use Rattle.dc_teletype.specs.TerminalLines.{TerminalState}
use Rattle.dc_teletype.specs.declared.teletype.Asked.{Asked}
use Rattle.dc_pass.specs.Passing.{counted}
use Rattle.dc_pass.specs.Reading.{calls, Takes}
use Rattle.dc_pass.specs.Wire.{reply_lines, sent_reply}
use Rattle.dc_pass.specs.declared.calls.WireCall.{WireCall}
use Rattle.dc_pass.specs.declared.calls.WireCall.TheVariants.{Ask, Tell}
use Rattle.dc_pass.specs.declared.calls.WireError.TheVariants.{Bad}
use Rattle.dc_answer.specs.declared.answerer.AnswerBreak.{AnswerBreak}
use Rattle.dc_answer.specs.declared.answerer.AnswerBreak.TheVariants as break
use Rattle.dc_answer.specs.declared.answerer.Answerer.{Answerer}

-- the lines of a call that isn't whole yet, how many lines came, and the terminal
pub record AnswererState : Type 0 where
  pub lines : List Line
  pub got : ℕ
  pub terminal : TerminalState

-- no line came yet, and nothing was typed on this terminal
abbrev pub answerer_at : LinkState → AnswererState
answerer_at link = record { lines = []; got = 0; terminal = record { link = link; ahead = record { held = []; has_ended = false } } }

-- the state of an answerer, by that of its terminal
abbrev pub answerer_of : {T : Type 0} → (T → LinkState) → Answerer T → AnswererState
answerer_of link a =
    record { lines = a.reader; got = a.got; terminal = record { link = link a.terminal.now; ahead = a.teletype.ahead } }

-- ---- what a call comes to

-- a line is written on the terminal, and nothing is read there
pub record WritesLine (text : List ℕ) (old new : TerminalState) (result : Result (Unit {0}) LinkError) : Type 0 where
  pub said : SendsText (text ++ newline ∷ []) old.link new.link result
  pub ahead : new.ahead ≡ old.ahead

-- the lines that reply so; an answer whose line would be too long is sent as though the value were kept
abbrev pub reply_text : Asked → List ℕ
reply_text asked = text_of (reply_lines (sent_reply asked))

-- A request is held as a dialogue, whose answers are the reply; a line that is told is written, and has none.
abbrev pub Heeds : WireCall → TerminalState → Response → TerminalState → Type 0
Heeds (Ask title backup shown) old did new =
    (asked : Asked) × HeldDialogue backup title shown old new (Ok asked) × (did ≡ Replied 0 (reply_text asked))
Heeds (Tell text) old did new = WritesLine text old new (Ok tt) × (did ≡ Silent)

-- the same of what a line completes, if anything
abbrev pub HeedsCompleted : Option WireCall → TerminalState → Response → TerminalState → Type 0
HeedsCompleted None old did new = (did ≡ Silent) × (new ≡ old)
HeedsCompleted (Some call) old did new = Heeds call old did new

-- the terminal stopped it
abbrev pub StopsHeeding : WireCall → LinkError → TerminalState → TerminalState → Type 0
StopsHeeding (Ask title backup shown) error old new = HeldDialogue backup title shown old new (Err error)
StopsHeeding (Tell text) error old new = WritesLine text old new (Err error)

-- why a line isn't heeded at which a call of the terminal had this answer
abbrev pub break_of : LinkError → AnswerBreak
break_of failed.Failed = break.Term
break_of failed.OutOfMemory = break.OutOfMemory

-- what a call comes to: it is heeded, or the terminal stops it, or there is no memory for the reply of one that was heeded
abbrev pub ComesTo : WireCall → TerminalState → Result Response AnswerBreak → TerminalState → Type 0
ComesTo call old (Ok did) new = Heeds call old did new
ComesTo call old (Err (break.Wire line)) new = ⊥
ComesTo call old (Err break.Term) new = StopsHeeding call failed.Failed old new
ComesTo call old (Err break.OutOfMemory) new = StopsHeeding call failed.OutOfMemory old new ⊎ ((did : Response) × Heeds call old did new)

-- ---- lines

-- a line came, and what it completes was heeded
pub record TakesWireLine (old : AnswererState) (line : Line) (did : Response) (new : AnswererState) : Type 0 where
  pub completed : Option WireCall
  pub takes : Takes calls old.lines line (Ok completed) new.lines
  pub got_is : new.got ≡ counted old.got 1
  pub heeds : HeedsCompleted completed old.terminal did new.terminal

-- the line is unreadable, and nothing was done
pub record IsUnreadable (old : AnswererState) (line : Line) (number : ℕ) (new : AnswererState) : Type 0 where
  pub takes : Takes calls old.lines line (Err Bad) new.lines
  pub number_is : number ≡ counted old.got 1
  pub terminal_is : new.terminal ≡ old.terminal

-- the line completes a call, at which the terminal failed, or found no memory
pub record IsStopped (old : AnswererState) (line : Line) (error : LinkError) (new : AnswererState) : Type 0 where
  pub call : WireCall
  pub takes : Takes calls old.lines line (Ok (Some call)) new.lines
  pub stops : StopsHeeding call error old.terminal new.terminal

-- the line completes a call that was heeded, and there was no memory for its reply
pub record IsUnprinted (old : AnswererState) (line : Line) (new : AnswererState) : Type 0 where
  pub call : WireCall
  pub takes : Takes calls old.lines line (Ok (Some call)) new.lines
  pub did : Response
  pub heeds : Heeds call old.terminal did new.terminal

-- what a line leaves that isn't heeded to its end
abbrev pub LosesWireLine : AnswererState → Line → AnswerBreak → AnswererState → Type 0
LosesWireLine old line (break.Wire number) new = IsUnreadable old line number new
LosesWireLine old line break.Term new = IsStopped old line failed.Failed new
LosesWireLine old line break.OutOfMemory new =
    (new.terminal ≡ old.terminal) ⊎ (IsStopped old line failed.OutOfMemory new ⊎ IsUnprinted old line new)

-- ---- a whole wire

-- A session's lines were served over the wire from a terminal on which nothing was typed yet, and this is left of it.
pub record IsAnswered (start terminal old new : LinkState) (end : LinkEnd AnswerBreak) : Type 0 where
  pub state : AnswererState
  pub code : ℕ
  pub serves : ServesLink TakesWireLine LosesWireLine old new (answerer_at start) end state 0 code
  pub terminal_is : terminal ≡ state.terminal.link
