-- What commands show the user (debconf-devel(7), GO and PROGRESS), on a terminal or over a wire, and what becomes of that.
use Rattle.std.specs.Prelude.{◌≡◌, ℕ, ◌+◌, ◌-◌, ◌*◌, ◌/◌, nat_le, List, [], ◌∷◌, ◌++◌, Result, Ok, Err, IfOk, codes, decimal, if◌then◌else◌}
use Rattle.std.specs.Option.{option_map_or}
use Rattle.dc_text.specs.Ascii.{newline}
use Rattle.dc_frontend.specs.declared.frontend.Frontend.{Frontend}
use Rattle.dc_frontend.specs.declared.frontend.Frontend.TheVariants.{Noninteractive, Teletype, Passthrough}
use Rattle.dc_frontend.specs.declared.shown.Shown.{Shown}
use Rattle.dc_outside.specs.declared.link.LinkError.{LinkError}
use Rattle.dc_outside.specs.declared.link.LinkError.TheVariants as link
use Rattle.dc_pass.specs.Passing.{Asks, Tells}
use Rattle.dc_pass.specs.declared.pass.PassError.{PassError}
use Rattle.dc_pass.specs.declared.pass.PassError.TheVariants as wire
use Rattle.dc_proto.specs.declared.command.Command.{Command}
use Rattle.dc_proto.specs.declared.command.Command.TheVariants.{Go, ProgressStart, ProgressSet, ProgressStep, ProgressInfo}
use Rattle.dc_question.specs.declared.errors.QuestionError.{QuestionError}
use Rattle.dc_teletype.specs.Dialogue.{HeldDialogue, SendsText}
use Rattle.dc_teletype.specs.declared.teletype.Asked.{Asked}
use Rattle.dc_teletype.specs.declared.teletype.Asked.TheVariants.{Answers}
use Rattle.dc_session.specs.Answers.{for_question}
use Rattle.dc_session.specs.Asking.{description, first_fixed, to_show, bar_at}
use Rattle.dc_session.specs.SessionState.{SessionState, ScreenState, typed_at}
use Rattle.dc_session.specs.declared.asking.Asking.{Asking}
use Rattle.dc_session.specs.declared.asking.Bar.{Bar}
use Rattle.dc_session.specs.declared.stepped.StepError.{StepError}
use Rattle.dc_session.specs.declared.stepped.StepError.TheVariants as step

-- ---- what is shown

-- nothing, a line, or a dialogue over some questions; or the same of another program, which is told the line, or asked for the answers
pub data Display : Type 0 where
  Blank : Display
  OneLine : List ℕ → Display
  Dialogue : List Shown → Display
  Told : List ℕ → Display
  Request : List Shown → Display

-- a dialogue, where there is a question
abbrev pub dialogue : List Shown → Display
dialogue [] = Blank
dialogue (question ∷ questions) = Dialogue (question ∷ questions)

-- what is read as a line, if it is read
abbrev pub line_read : Result (List ℕ) QuestionError → Display
line_read (Ok text) = OneLine text
line_read (Err error) = Blank

-- the description of a question that is there
abbrev pub described : SessionState → List ℕ → Display
described state word = line_read (for_question word (description state.store.layers state.at))

-- how much of its way the bar is along, in whole percent, rounded down; all of it where there is no way
abbrev pub percent : Bar → ℕ
percent bar = if nat_le bar.max bar.min then 100 else ((bar.place - bar.min) * 100) / (bar.max - bar.min)

abbrev pub percent_line : Bar → Display
percent_line bar = OneLine (decimal (percent bar) ++ codes "%")

-- the same of another program
abbrev pub passed_on : Display → Display
passed_on (OneLine text) = Told text
passed_on (Dialogue questions) = Request questions
passed_on display = display

-- nothing where nobody is asked
abbrev pub where_asked : Frontend → Display → Display
where_asked Noninteractive display = Blank
where_asked Teletype display = display
where_asked Passthrough display = passed_on display

-- what a command shows the user
abbrev pub displayed : SessionState → Command → Display
displayed state Go = where_asked state.policy.frontend (option_map_or (λ name. Blank) (first_fixed state) (dialogue (to_show state)))
displayed state (ProgressStart low high word) = where_asked state.policy.frontend (described state word)
displayed state (ProgressSet number) = where_asked state.policy.frontend (option_map_or (λ bar. percent_line (bar_at bar number)) state.asking.bar Blank)
displayed state (ProgressStep number) = where_asked state.policy.frontend (option_map_or (λ bar. percent_line (bar_at bar (bar.place + number))) state.asking.bar Blank)
displayed state (ProgressInfo word) = where_asked state.policy.frontend (option_map_or (λ bar. described state word) state.asking.bar Blank)
displayed state command = Blank

-- ---- what becomes of the terminal, or the wire

-- a line was written, or not: nothing was read
pub record HasLine (text : List ℕ) (old new : ScreenState) (result : Result Asked LinkError) : Type 0 where
  pub said : SendsText (text ++ newline ∷ []) old.link new.link result
  pub ahead : new.ahead ≡ old.ahead
  pub none : IfOk result (λ asked. asked ≡ Answers [])

-- a dialogue was held over these questions, or it stopped
pub record HasDialogue (asking : Asking) (questions : List Shown) (old new : ScreenState) (result : Result Asked LinkError) : Type 0 where
  pub dialogue : HeldDialogue asking.backup asking.title questions (typed_at old) (typed_at new) result
  pub got : new.ahead.got ≡ old.ahead.got

-- a line was told over the wire, or not: nothing was read
pub record HasTold (text : List ℕ) (old new : ScreenState) (result : Result Asked LinkError) : Type 0 where
  pub tells : Tells text old.link new.link result
  pub ahead : new.ahead ≡ old.ahead
  pub none : IfOk result (λ asked. asked ≡ Answers [])

-- the other program was asked these questions, or the wire failed, or had an unreadable line
abbrev pub HasRequest : Asking → List Shown → ScreenState → ScreenState → Result Asked PassError → Type 0
HasRequest asking questions old new result =
    Asks asking.backup asking.title questions old.ahead.got (typed_at old) (typed_at new) result new.ahead.got

-- why a line of the confmodule comes to nothing, by a call of the link
abbrev pub OnLink : (Result Asked LinkError → Type 0) → Result Asked StepError → Type 0
OnLink does (Ok asked) = does (Ok asked)
OnLink does (Err step.Term) = does (Err link.Failed)
OnLink does (Err (step.Wire line)) = ⊥
OnLink does (Err step.OutOfMemory) = does (Err link.OutOfMemory)

-- and by a request over the wire
abbrev pub OnWire : (Result Asked PassError → Type 0) → Result Asked StepError → Type 0
OnWire does (Ok asked) = does (Ok asked)
OnWire does (Err step.Term) = does (Err wire.Failed)
OnWire does (Err (step.Wire line)) = does (Err (wire.Bad line))
OnWire does (Err step.OutOfMemory) = does (Err wire.OutOfMemory)

-- What becomes of the terminal or the wire on which this is shown, and what is answered there, or at which fault it stopped. Where nothing is
-- shown, it stays as it is.
abbrev pub Shows : Asking → Display → ScreenState → Result Asked StepError → ScreenState → Type 0
Shows asking Blank old result new = (result ≡ Ok (Answers [])) × (new ≡ old)
Shows asking (OneLine text) old result new = OnLink (HasLine text old new) result
Shows asking (Dialogue questions) old result new = OnLink (HasDialogue asking questions old new) result
Shows asking (Told text) old result new = OnLink (HasTold text old new) result
Shows asking (Request questions) old result new = OnWire (HasRequest asking questions old new) result
