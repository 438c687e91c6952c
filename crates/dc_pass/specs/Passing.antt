-- What a session does on the wire: a request goes out, and the lines of a reply come in.
use Rattle.std.specs.Prelude.{◌≡◌, ◌⊎◌, ℕ, ◌+◌, ◌-◌, ◌^◌, min, Bool, false, List, [], ◌∷◌, ◌++◌, length, drop, codes, map as each, Option, Some, None, Result, Ok, Err, if◌then◌else◌}
use Rattle.std.specs.List.{filter, list_all}
use Rattle.dc_text.specs.Bytes.{is_nil}
use Rattle.dc_text.specs.Lines.{text_of}
use Rattle.dc_words.specs.declared.stream.Line.{Line}
use Rattle.dc_words.specs.declared.stream.Line.TheVariants as line
use Rattle.dc_frontend.specs.declared.shown.Shown.{Shown}
use Rattle.dc_outside.specs.Counts.{Counts, FaultRose, RefusalRose}
use Rattle.dc_outside.specs.LinkCalls.{Sends}
use Rattle.dc_outside.specs.State.{LinkState}
use Rattle.dc_outside.specs.declared.link.LinkError.{LinkError}
use Rattle.dc_outside.specs.declared.link.LinkError.TheVariants as failed
use Rattle.dc_teletype.specs.TerminalLines.{TerminalState, ReadsLine, EndsWell, CallCounts}
use Rattle.dc_teletype.specs.declared.terminal.TerminalLine.{TerminalLine}
use Rattle.dc_teletype.specs.declared.terminal.TerminalLine.TheVariants.{Whole, Cut}
use Rattle.dc_teletype.specs.declared.teletype.Asked.{Asked}
use Rattle.dc_teletype.specs.declared.teletype.Answer.{Answer}
use Rattle.dc_teletype.specs.declared.teletype.Answer.TheVariants.{Keep}
use Rattle.dc_teletype.specs.declared.teletype.Asked.TheVariants.{Answers, Back}
use Rattle.dc_pass.specs.declared.pass.PassError.{PassError}
use Rattle.dc_pass.specs.declared.pass.PassError.TheVariants.{Failed, Bad, OutOfMemory}
use Rattle.dc_pass.specs.Wire.{fits, wire_line, question_lines, request_lines}
use Rattle.dc_pass.specs.Reading.{Form, replies, GoesOn, IsWhole, AreUnreadable}

-- ---- lines that come

-- the next line came, or none did
pub record NextLine (old new : TerminalState) (result : Result (Option TerminalLine) LinkError) : Type 0 where
  pub read : ReadsLine old new result
  pub end : EndsWell old.ahead new.ahead new.link.input
  pub counts : CallCounts result old.link.counts new.link.counts
  pub program : new.link.program ≡ old.link.program

-- these lines came, one after another
abbrev pub LinesCome : TerminalState → List TerminalLine → TerminalState → Type 0
LinesCome old [] new = new ≡ old
LinesCome old (line ∷ lines) new = (between : TerminalState) × NextLine old between (Ok (Some line)) × LinesCome between lines new

-- a line as a reader takes it: one that was cut is too long
abbrev pub seen : TerminalLine → Line
seen (Whole bytes) = line.Whole bytes
seen Cut = line.TooLong

-- the number of lines that came, with so many more; it stays at its last value
abbrev pub counted : ℕ → ℕ → ℕ
counted before more = min (before + more) (2 ^ 64 - 1)

-- what the next line is, and which number it has
abbrev pub Comes : ℕ → TerminalState → TerminalState → Result (Option Line) PassError → ℕ → Type 0
Comes before old new (Ok None) now = NextLine old new (Ok None) × (now ≡ before)
Comes before old new (Ok (Some came)) now = (line : TerminalLine) × NextLine old new (Ok (Some line)) × (came ≡ seen line) × (now ≡ counted before 1)
Comes before old new (Err Failed) now = NextLine old new (Err failed.Failed) × (now ≡ before)
Comes before old new (Err OutOfMemory) now = NextLine old new (Err failed.OutOfMemory) × (now ≡ before)
Comes before old new (Err (Bad line)) now = ⊥

-- ---- a reply that comes

-- What the lines of a reply come to: a reply, where they are whole; none, where the input ends before; or the first line that no reply
-- allows. Each line is read where the reply isn't whole yet.
abbrev pub Hears : Form Asked → ℕ → TerminalState → TerminalState → Result (Option Asked) PassError → ℕ → Type 0
Hears form before old new (Ok (Some asked)) now =
    (lines : List TerminalLine) × LinesCome old lines new × IsWhole form (each seen lines) asked × (now ≡ counted before (length lines))
Hears form before old new (Ok None) now =
    (lines : List TerminalLine) × (between : TerminalState) × LinesCome old lines between × GoesOn form (each seen lines) × NextLine between new (Ok None)
    × (now ≡ counted before (length lines))
Hears form before old new (Err (Bad line)) now =
    (lines : List TerminalLine) × (last : TerminalLine) × LinesCome old (lines ++ last ∷ []) new × GoesOn form (each seen lines)
    × AreUnreadable form (each seen lines ++ seen last ∷ []) × (line ≡ counted before (length lines + 1)) × (now ≡ line)
Hears form before old new (Err Failed) now =
    (lines : List TerminalLine) × (between : TerminalState) × LinesCome old lines between × GoesOn form (each seen lines)
    × NextLine between new (Err failed.Failed)
    × (now ≡ counted before (length lines))
Hears form before old new (Err OutOfMemory) now =
    (lines : List TerminalLine) × (between : TerminalState) × LinesCome old lines between × ((new ≡ between) ⊎ NextLine between new (Err failed.OutOfMemory))
    × (now ≡ counted before (length lines))

-- ---- a request that goes out

-- a question is sent where none of its lines is too long
abbrev pub is_sent : Shown → Bool
is_sent shown = list_all fits (question_lines shown)

abbrev pub sent_questions : List Shown → List Shown
sent_questions shown = filter is_sent shown

-- a title whose line is too long is sent empty
abbrev pub sent_title : List ℕ → List ℕ
sent_title title = if fits (wire_line (codes "title") title) then title else []

-- the text that asks these questions
abbrev pub request_text : Bool → List ℕ → List Shown → List ℕ
request_text backup title sent = text_of (request_lines title backup sent)

-- a request of some questions went out, and this came of its reply
pub record IsAsked (backup : Bool) (title : List ℕ) (sent : List Shown) (before : ℕ) (old new : TerminalState) (heard : Result (Option Asked) PassError) (now : ℕ) : Type 0 where
  pub some : is_nil sent ≡ false
  pub link : LinkState
  pub sends : Sends {T = Unit {0}} (request_text backup title sent) old.link link (Ok tt)
  pub hears : Hears (replies backup sent) before (record { link = link; ahead = old.ahead }) new heard now

-- a request didn't go out whole
pub record IsUnasked (backup : Bool) (title : List ℕ) (sent : List Shown) (before : ℕ) (old new : TerminalState) (error : LinkError) (now : ℕ) : Type 0 where
  pub sends : Sends {T = Unit {0}} (request_text backup title sent) old.link new.link (Err error)
  pub ahead_is : new.ahead ≡ old.ahead
  pub now_is : now ≡ before

-- memory ran out before anything went out
abbrev pub IsUntouched : ℕ → TerminalState → TerminalState → ℕ → Type 0
IsUntouched before old new now = (new ≡ old) × (now ≡ before)

-- what asking these questions comes to
abbrev pub Requests : Bool → List ℕ → List Shown → ℕ → TerminalState → TerminalState → Result (Option Asked) PassError → ℕ → Type 0
Requests backup title sent before old new (Ok heard) now = IsAsked backup title sent before old new (Ok heard) now
Requests backup title sent before old new (Err (Bad line)) now = IsAsked backup title sent before old new (Err (Bad line)) now
Requests backup title sent before old new (Err Failed) now =
    IsUnasked backup title sent before old new failed.Failed now ⊎ IsAsked backup title sent before old new (Err Failed) now
Requests backup title sent before old new (Err OutOfMemory) now =
    IsUntouched before old new now
    ⊎ (IsUnasked backup title sent before old new failed.OutOfMemory now ⊎ IsAsked backup title sent before old new (Err OutOfMemory) now)

-- the first answer; where there is none the value is kept
abbrev pub first_answer : List Answer → Answer
first_answer [] = Keep
first_answer (answer ∷ answers) = answer

-- the answers to all questions: the value of one that wasn't sent is kept
abbrev pub spread : List Shown → List Answer → List Answer
spread [] answers = []
spread (question ∷ others) answers =
    if is_sent question then first_answer answers ∷ spread others (drop 1 answers) else Keep ∷ spread others answers

-- what the dialogue came to; without a whole reply all values are kept
abbrev pub asked_by : List Shown → Option Asked → Asked
asked_by shown None = Answers (each (λ (_ : Shown). Keep) shown)
asked_by shown (Some (Answers answers)) = Answers (spread shown answers)
asked_by shown (Some Back) = Back

-- What a dialogue over the wire comes to. Where no question is sent, nothing is.
abbrev pub Asks : Bool → List ℕ → List Shown → ℕ → TerminalState → TerminalState → Result Asked PassError → ℕ → Type 0
Asks backup title shown before old new (Ok asked) now =
    ((sent_questions shown ≡ []) × IsUntouched before old new now × (asked ≡ asked_by shown None))
    ⊎ ((heard : Option Asked) × Requests backup (sent_title title) (sent_questions shown) before old new (Ok heard) now × (asked ≡ asked_by shown heard))
Asks backup title shown before old new (Err (Bad line)) now = Requests backup (sent_title title) (sent_questions shown) before old new (Err (Bad line)) now
Asks backup title shown before old new (Err Failed) now = Requests backup (sent_title title) (sent_questions shown) before old new (Err Failed) now
Asks backup title shown before old new (Err OutOfMemory) now =
    IsUntouched before old new now
    ⊎ (Requests backup (sent_title title) (sent_questions shown) before old new (Err OutOfMemory) now
    ⊎ ((heard : Option Asked) × Requests backup (sent_title title) (sent_questions shown) before old new (Ok heard) now))

-- How the link counted what was done on it, by the answer: a line that is unreadable is no fault of the link.
abbrev pub WireCounts : {T : Type 0} → Result T PassError → Counts → Counts → Type 0
WireCounts (Ok value) before now = now ≡ before
WireCounts (Err (Bad line)) before now = now ≡ before
WireCounts (Err Failed) before now = FaultRose before now
WireCounts (Err OutOfMemory) before now = RefusalRose before now ⊎ (now ≡ before)

-- ---- a line that is told

-- the text that tells a line: nothing where the line would be too long
abbrev pub tell_text : List ℕ → List ℕ
tell_text line = if fits (wire_line (codes "tell") line) then text_of (wire_line (codes "tell") line ∷ []) else []

-- what telling a line does to the link: where it would be too long, nothing
abbrev pub Tells : {T : Type 0} → List ℕ → LinkState → LinkState → Result T LinkError → Type 0
Tells line old new (Ok done) = ((tell_text line ≡ []) × (new ≡ old)) ⊎ Sends {T = Unit {0}} (tell_text line) old new (Ok tt)
Tells line old new (Err failed.Failed) = Sends {T = Unit {0}} (tell_text line) old new (Err failed.Failed)
Tells line old new (Err failed.OutOfMemory) = (new ≡ old) ⊎ Sends {T = Unit {0}} (tell_text line) old new (Err failed.OutOfMemory)
