-- What the inner functions promise. No public clause cites these.
use Rattle.std.specs.Prelude.{◌≡◌, ◌<◌, ⊤, ℕ, length, Bool, true, nat_le, List, [], ◌∷◌, ◌++◌, Option, Some, None, Result, Ok, Err}
use Rattle.std.specs.Io.KnownBytes.{prepend_known}
use Rattle.dc_text.specs.Ascii.{newline}
use Rattle.dc_frontend.specs.declared.shown.Shown.{Shown}
use Rattle.dc_outside.specs.declared.link.LinkError.{LinkError}
use Rattle.dc_outside.specs.declared.link.LinkError.TheVariants.{Failed, OutOfMemory}
use Rattle.dc_outside.specs.declared.link.Piece.{Piece}
use Rattle.dc_outside.specs.declared.link.Piece.TheVariants as piece
use Rattle.dc_outside.specs.Talk.{then_pieces, got}
use Rattle.dc_teletype.specs.Columns.{filled, paragraph}
use Rattle.dc_teletype.specs.Dialogue.{Step, Over, Goes, Stops, answered, reading_of, most_unusable}
use Rattle.dc_teletype.specs.TerminalLines.{TypeAhead, TerminalState, Reads, ReadsUntil, first_line, with_bytes}
use Rattle.dc_teletype.specs.declared.answering.Reading.{Reading}
use Rattle.dc_teletype.specs.declared.answering.Reading.TheVariants as reading
use Rattle.dc_teletype.specs.declared.teletype.Answer.{Answer}
use Rattle.dc_teletype.specs.declared.teletype.Answer.TheVariants.{Keep, Value}
use Rattle.dc_teletype.specs.declared.teletype.Asked.TheVariants.{Back}
use Rattle.dc_teletype.specs.declared.terminal.TerminalLine.{TerminalLine}

-- a line that was begun, if any was, and words, as lines
abbrev pub begun : ℕ → List ℕ → List (List ℕ) → List (List ℕ)
begun columns [] words = paragraph columns words
begun columns (byte ∷ line) words = filled columns (byte ∷ line) words

-- the first line was taken, if there is one
abbrev pub Takes : List ℕ → Option TerminalLine → List ℕ → Type 0
Takes old None new = (first_line old ≡ None) × (new ≡ old)
Takes old (Some line) new = first_line old ≡ Some (line, new)

-- a read brought a piece, or the end of the input
abbrev pub Brings : TypeAhead → List Piece → TypeAhead → Type 0
Brings old [] new = (new.held ≡ old.held) × (new.has_ended ≡ true)
Brings old (piece.Got bytes ∷ []) new = (0 < length bytes) × (new ≡ with_bytes old bytes)
Brings old pieces new = ⊥

-- nothing, or a piece
abbrev pub IsPieceAtMost : List Piece → Type 0
IsPieceAtMost [] = ⊤
IsPieceAtMost (piece.Got bytes ∷ []) = ⊤
IsPieceAtMost pieces = ⊥

abbrev pub BringsBy : Result (Unit {0}) LinkError → TypeAhead → List Piece → TypeAhead → Type 0
BringsBy (Ok done) old pieces new = Brings old pieces new
BringsBy (Err Failed) old pieces new = pieces ≡ piece.Lost ∷ []
BringsBy (Err OutOfMemory) old pieces new = IsPieceAtMost pieces

pub record HasBrought (old new : TypeAhead) (talk new_talk : Option (List Piece)) (input left : Option (List ℕ)) (result : Result (Unit {0}) LinkError) : Type 0 where
  pub pieces : List Piece
  pub told_is : new_talk ≡ then_pieces talk pieces
  pub took : input ≡ prepend_known (got pieces) left
  pub brings : BringsBy result old pieces new

abbrev pub BringsPiece : TerminalState → TerminalState → Result (Unit {0}) LinkError → Type 0
BringsPiece old new result = HasBrought old.ahead new.ahead old.link.talk new.link.talk old.link.input new.link.input result

-- the step to which the answer of a question leads
abbrev pub answered_or_back : Option Answer → List Shown → List Answer → Step
answered_or_back None others answers = record { said = newline ∷ []; stage = Over Back }
answered_or_back (Some answer) others answers = answered answer others answers

-- A question got its answer, and what was to be said is said up to the next step; or the terminal stopped.
abbrev pub HearsBy : Bool → Step → TypeAhead → List Piece → Result (Option Answer) LinkError → List Shown → List Answer → TypeAhead → Type 0
HearsBy backup start old pieces (Ok answer) others answers new =
    (came : List (Option TerminalLine)) × Goes backup start old came pieces (answered_or_back answer others answers) new
HearsBy backup start old pieces (Err error) others answers new =
    (came : List (Option TerminalLine)) × (gone : List Piece) × (last : List Piece) × (step : Step) × (ahead : TypeAhead)
    × (pieces ≡ gone ++ last) × Goes backup start old came gone step ahead × Stops error step ahead last

pub record HasHeard (backup : Bool) (start : Step) (old new : TypeAhead) (talk new_talk : Option (List Piece)) (input left : Option (List ℕ)) (result : Result (Option Answer) LinkError) (others : List Shown) (answers : List Answer) : Type 0 where
  pub pieces : List Piece
  pub told_is : new_talk ≡ then_pieces talk pieces
  pub took : input ≡ prepend_known (got pieces) left
  pub hears : HearsBy backup start old pieces result others answers new

abbrev pub Hears : Bool → Step → TerminalState → TerminalState → Result (Option Answer) LinkError → List Shown → List Answer → Type 0
Hears backup start old new result others answers =
    HasHeard backup start old.ahead new.ahead old.link.talk new.link.talk old.link.input new.link.input result others answers

-- a line was read so, or none came until the terminal stopped
abbrev pub RepliesBy : Bool → Shown → TypeAhead → List Piece → Result Reading LinkError → TypeAhead → Type 0
RepliesBy backup shown old pieces (Ok reading) new =
    (came : Option TerminalLine) × Reads old pieces came new × (reading ≡ reading_of shown backup came)
RepliesBy backup shown old pieces (Err error) new = ReadsUntil error old pieces

pub record HasReplied (backup : Bool) (shown : Shown) (old new : TypeAhead) (talk new_talk : Option (List Piece)) (input left : Option (List ℕ)) (result : Result Reading LinkError) : Type 0 where
  pub pieces : List Piece
  pub told_is : new_talk ≡ then_pieces talk pieces
  pub took : input ≡ prepend_known (got pieces) left
  pub replies : RepliesBy backup shown old pieces result new

abbrev pub Replies : Bool → Shown → TerminalState → TerminalState → Result Reading LinkError → Type 0
Replies backup shown old new result = HasReplied backup shown old.ahead new.ahead old.link.talk new.link.talk old.link.input new.link.input result

-- the answer of a reading that ends a question, none where the user goes back
abbrev pub answer_of : Reading → Option Answer
answer_of reading.Back = None
answer_of reading.Keep = Some Keep
answer_of (reading.Value value) = Some (Value value)
answer_of reading.Unusable = Some Keep

-- whether a question has its answer with the reading of a line, the last of so many unusable ones at most
abbrev pub is_answered : Reading → ℕ → Bool
is_answered reading.Unusable lines = nat_le most_unusable lines
is_answered reading.Back lines = true
is_answered reading.Keep lines = true
is_answered (reading.Value value) lines = true
