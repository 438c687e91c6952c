-- The dialogue on a terminal.
use Rattle.std.specs.Prelude.{◌≡◌, ◌⊎◌, ⊤, ℕ, ◌+◌, List, [], ◌∷◌, ◌++◌, Bool, Option, Some, None, Result, Ok, Err, codes, nat_le, if◌then◌else◌}
use Rattle.std.specs.Io.KnownBytes.{prepend_known}
use Rattle.dc_text.specs.Ascii.{newline}
use Rattle.dc_frontend.specs.declared.shown.Shown.{Shown}
use Rattle.dc_outside.specs.declared.link.LinkError.{LinkError}
use Rattle.dc_outside.specs.declared.link.LinkError.TheVariants.{Failed, OutOfMemory}
use Rattle.dc_outside.specs.declared.link.Piece.{Piece}
use Rattle.dc_outside.specs.declared.link.Piece.TheVariants as piece
use Rattle.dc_outside.specs.LinkCalls.{IsCutAt}
use Rattle.dc_outside.specs.State.{LinkState}
use Rattle.dc_outside.specs.Talk.{then_pieces, got}
use Rattle.dc_teletype.specs.Answers.{answer_to}
use Rattle.dc_teletype.specs.Prompts.{heading, introduction, prompt}
use Rattle.dc_teletype.specs.TerminalLines.{TypeAhead, TerminalState, Reads, ReadsUntil, CallCounts, EndsWell}
use Rattle.dc_teletype.specs.declared.answering.Reading.{Reading}
use Rattle.dc_teletype.specs.declared.answering.Reading.TheVariants as reading
use Rattle.dc_teletype.specs.declared.teletype.Answer.{Answer}
use Rattle.dc_teletype.specs.declared.teletype.Answer.TheVariants.{Keep, Value}
use Rattle.dc_teletype.specs.declared.teletype.Asked.{Asked}
use Rattle.dc_teletype.specs.declared.teletype.Asked.TheVariants.{Answers, Back}
use Rattle.dc_teletype.specs.declared.terminal.TerminalLine.{TerminalLine}
use Rattle.dc_teletype.specs.declared.terminal.TerminalLine.TheVariants.{Whole, Cut}

-- Where a dialogue is: a question waits for its answer after so many unusable lines, with others behind it and the answers before it; or
-- the dialogue is over.
pub data Stage : Type 0 where
  Waits : Shown → ℕ → List Shown → List Answer → Stage
  Over : Asked → Stage

-- what is to be said, and where the dialogue is then
pub record Step : Type 0 where
  pub said : List ℕ
  pub stage : Stage

-- The first of some questions is put behind what is said. Where there is none, the dialogue is over.
abbrev pub puts : List ℕ → List Shown → List Answer → Step
puts said [] answers = record { said = said; stage = Over (Answers answers) }
puts said (shown ∷ others) answers = record { said = said ++ introduction shown ++ prompt shown; stage = Waits shown 0 others answers }

-- the title, and the first question
abbrev pub opening : List ℕ → List Shown → Step
opening title shown = puts (heading title) shown []

-- the most unusable lines of a question
abbrev pub most_unusable : ℕ
most_unusable = 64

-- a question has its answer, and the next one is put
abbrev pub answered : Answer → List Shown → List Answer → Step
answered answer others answers = puts (newline ∷ []) others (answers ++ answer ∷ [])

-- what comes of the reading of a line
abbrev pub after_reading : Reading → Shown → ℕ → List Shown → List Answer → Step
after_reading reading.Back shown unusable others answers = record { said = newline ∷ []; stage = Over Back }
after_reading reading.Keep shown unusable others answers = answered Keep others answers
after_reading (reading.Value value) shown unusable others answers = answered (Value value) others answers
after_reading reading.Unusable shown unusable others answers =
    if nat_le most_unusable (unusable + 1) then answered Keep others answers
    else record { said = codes "Please answer again.\n" ++ prompt shown; stage = Waits shown (unusable + 1) others answers }

-- what a line is read as; where the input has ended, none came, and the value is kept
abbrev pub reading_of : Shown → Bool → Option TerminalLine → Reading
reading_of shown backup None = reading.Keep
reading_of shown backup (Some Cut) = reading.Unusable
reading_of shown backup (Some (Whole line)) = answer_to shown backup line

-- what comes of a line, where one is waited for
abbrev pub turn : Bool → Stage → Option TerminalLine → Option Step
turn backup (Waits shown unusable others answers) came = Some (after_reading (reading_of shown backup came) shown unusable others answers)
turn backup (Over asked) came = None

-- From one step to a later one by these lines. In each turn what is to be said is sent, and then reads come until a line is there.
abbrev pub Goes : Bool → Step → TypeAhead → List (Option TerminalLine) → List Piece → Step → TypeAhead → Type 0
Goes backup old ahead [] pieces new left = (pieces ≡ []) × (new ≡ old) × (left ≡ ahead)
Goes backup old ahead (came ∷ more) pieces new left =
    (reads : List Piece) × (later : List Piece) × (between : TypeAhead) × (next : Step)
    × (pieces ≡ piece.Sent old.said ∷ (reads ++ later)) × Reads ahead reads came between × (turn backup old.stage came ≡ Some next)
    × Goes backup next between more later new left

-- the question waits
abbrev pub IsWaiting : Stage → Type 0
IsWaiting (Waits shown unusable others answers) = ⊤
IsWaiting (Over asked) = ⊥

-- what was to be said was sent, and these reads came where a line was waited for
pub record StopsReading (error : LinkError) (step : Step) (ahead : TypeAhead) (pieces : List Piece) : Type 0 where
  pub reads : List Piece
  pub pieces_are : pieces ≡ piece.Sent step.said ∷ reads
  pub waiting : IsWaiting step.stage
  pub until : ReadsUntil error ahead reads

-- a front of what was to be said was sent
pub record IsCutShort (step : Step) (pieces : List Piece) : Type 0 where
  pub front : List ℕ
  pub back : List ℕ
  pub said_is : step.said ≡ front ++ back
  pub pieces_are : pieces ≡ piece.Cut front ∷ []

-- how a dialogue stops at a fault of the terminal, and for want of memory
abbrev pub Stops : LinkError → Step → TypeAhead → List Piece → Type 0
Stops Failed step ahead pieces = IsCutShort step pieces ⊎ StopsReading Failed step ahead pieces
Stops OutOfMemory step ahead pieces = (pieces ≡ []) ⊎ StopsReading OutOfMemory step ahead pieces

-- how it ends: all was said, or it stopped
abbrev pub EndsBy : Result Asked LinkError → Step → TypeAhead → List Piece → TypeAhead → Type 0
EndsBy (Ok asked) step ahead pieces new = (step.stage ≡ Over asked) × (pieces ≡ piece.Sent step.said ∷ []) × (new ≡ ahead)
EndsBy (Err error) step ahead pieces new = Stops error step ahead pieces

-- A dialogue was held from this step, with what was ahead on the terminal.
pub record IsDialogue (backup : Bool) (start : Step) (old new : TypeAhead) (talk new_talk : Option (List Piece)) (input left : Option (List ℕ)) (result : Result Asked LinkError) : Type 0 where
  pub gone : List Piece
  pub last : List Piece
  pub told_is : new_talk ≡ then_pieces talk (gone ++ last)
  pub took : input ≡ prepend_known (got (gone ++ last)) left
  pub came : List (Option TerminalLine)
  pub step : Step
  pub ahead : TypeAhead
  pub goes : Goes backup start old came gone step ahead
  pub ends : EndsBy result step ahead last new

-- the same of a terminal
abbrev pub HoldsDialogue : Bool → Step → TerminalState → TerminalState → Result Asked LinkError → Type 0
HoldsDialogue backup start old new result = IsDialogue backup start old.ahead new.ahead old.link.talk new.link.talk old.link.input new.link.input result

-- what writing a text does to the link, by the answer
abbrev pub SendsText : {T : Type 0} → List ℕ → LinkState → LinkState → Result T LinkError → Type 0
SendsText text old new (Ok done) = new ≡ record old { talk = then_pieces old.talk (piece.Sent text ∷ []) }
SendsText text old new (Err Failed) = IsCutAt text old new
SendsText text old new (Err OutOfMemory) = (new ≡ record old { counts = new.counts }) × CallCounts {T = Unit {0}} (Err OutOfMemory) old.counts new.counts

-- a dialogue was held on a terminal over these questions, under a title, or it stopped; how it is counted there, and what it leaves
pub record HeldDialogue (backup : Bool) (title : List ℕ) (questions : List Shown) (old new : TerminalState) (result : Result Asked LinkError) : Type 0 where
  pub held : HoldsDialogue backup (opening title questions) old new result
  pub ends : EndsWell old.ahead new.ahead new.link.input
  pub counts : CallCounts result old.link.counts new.link.counts
  pub program : new.link.program ≡ old.link.program
