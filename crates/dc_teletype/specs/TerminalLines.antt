-- The lines of a terminal, as far as its input came.
use Rattle.std.specs.Prelude.{◌≡◌, ℕ, Bool, true, false, ◌==◌, ◌⊎◌, ⊤, nat_lt, List, [], ◌∷◌, ◌++◌, Option, Some, None, Result, Ok, Err, length, drop, if◌then◌else◌}
use Rattle.std.specs.List.{before_first, after_first}
use Rattle.std.specs.Io.KnownBytes.{prepend_known, IsAtEnd}
use Rattle.dc_text.specs.Ascii.{newline}
use Rattle.dc_text.specs.Lines.{has_newline}
use Rattle.dc_outside.specs.declared.link.Piece.{Piece}
use Rattle.dc_outside.specs.declared.link.Piece.TheVariants as piece
use Rattle.dc_outside.specs.declared.link.LinkError.{LinkError}
use Rattle.dc_outside.specs.declared.link.LinkError.TheVariants.{Failed, OutOfMemory}
use Rattle.dc_outside.specs.Counts.{Counts, FaultRose, RefusalRose}
use Rattle.dc_outside.specs.State.{LinkState}
use Rattle.dc_outside.specs.Talk.{then_pieces, got}
use Rattle.dc_teletype.specs.declared.terminal.TerminalLine.{TerminalLine}
use Rattle.dc_teletype.specs.declared.terminal.TerminalLine.TheVariants.{Whole, Cut}

-- the longest line that is one, in bytes
unfoldable pub longest : ℕ
longest = 1048576

-- what stands before the first newline, or all
abbrev pub front_of : List ℕ → List ℕ
front_of bytes = before_first (λ byte. byte == newline) bytes

-- The first line of the bytes, and the bytes behind it, where enough came to tell. Of a line that is longer than the longest so many bytes
-- are cut off.
abbrev pub first_line : List ℕ → Option (TerminalLine × List ℕ)
first_line bytes =
    if nat_lt longest (length (front_of bytes)) then Some (Cut, drop longest bytes)
    else if has_newline bytes then Some (Whole (front_of bytes), after_first (λ byte. byte == newline) bytes)
    else None

-- the rest behind the last newline, where there is any
abbrev pub last_line : List ℕ → Option TerminalLine
last_line [] = None
last_line (byte ∷ bytes) = Some (Whole (byte ∷ bytes))

-- bytes that came and weren't used, and whether the input has ended
pub record TypeAhead : Type 0 where
  pub held : List ℕ
  pub has_ended : Bool

-- no whole line came yet, and more may come
pub record IsOpen (ahead : TypeAhead) : Type 0 where
  pub none : first_line ahead.held ≡ None
  pub on : ahead.has_ended ≡ false

-- the first line came
pub record IsFirst (old : TypeAhead) (came : Option TerminalLine) (new : TypeAhead) : Type 0 where
  pub line : TerminalLine
  pub came_is : came ≡ Some line
  pub first : first_line old.held ≡ Some (line, new.held)
  pub end_is : new.has_ended ≡ old.has_ended

-- no line came, and the input has ended: the rest is the last line, where there is any
pub record IsLast (old : TypeAhead) (came : Option TerminalLine) (new : TypeAhead) : Type 0 where
  pub none : first_line old.held ≡ None
  pub came_is : came ≡ last_line old.held
  pub held_is : new.held ≡ []
  pub end_is : new.has_ended ≡ true

-- with these bytes too
abbrev pub with_bytes : TypeAhead → List ℕ → TypeAhead
with_bytes ahead bytes = record { held = ahead.held ++ bytes; has_ended = ahead.has_ended }

-- These reads came until a line was there, or the input ended. While a line was there, none came.
abbrev pub Reads : TypeAhead → List Piece → Option TerminalLine → TypeAhead → Type 0
Reads old [] came new = IsFirst old came new ⊎ IsLast old came new
Reads old (piece.Got bytes ∷ pieces) came new = IsOpen old × Reads (with_bytes old bytes) pieces came new
Reads old (piece.Sent bytes ∷ pieces) came new = ⊥
Reads old (piece.Cut bytes ∷ pieces) came new = ⊥
Reads old (piece.Lost ∷ pieces) came new = ⊥

-- These reads came until one failed, or memory ran out.
abbrev pub ReadsUntil : LinkError → TypeAhead → List Piece → Type 0
ReadsUntil OutOfMemory old [] = ⊤
ReadsUntil Failed old [] = ⊥
ReadsUntil error old (piece.Got bytes ∷ pieces) = IsOpen old × ReadsUntil error (with_bytes old bytes) pieces
ReadsUntil Failed old (piece.Lost ∷ []) = IsOpen old
ReadsUntil error old pieces = ⊥

abbrev pub ReadsBy : Result (Option TerminalLine) LinkError → TypeAhead → List Piece → TypeAhead → Type 0
ReadsBy (Ok came) old pieces new = Reads old pieces came new
ReadsBy (Err error) old pieces new = ReadsUntil error old pieces

-- How the link counted what was done on it, by the answer. Where memory ran out it counted a refusal, or none if it was the program's own
-- that did.
abbrev pub CallCounts : {T : Type 0} → Result T LinkError → Counts → Counts → Type 0
CallCounts (Ok value) before now = now ≡ before
CallCounts (Err Failed) before now = FaultRose before now
CallCounts (Err OutOfMemory) before now = RefusalRose before now ⊎ (now ≡ before)

-- the next line was read
pub record HasRead (old new : TypeAhead) (talk new_talk : Option (List Piece)) (input left : Option (List ℕ)) (result : Result (Option TerminalLine) LinkError) : Type 0 where
  pub pieces : List Piece
  pub told_is : new_talk ≡ then_pieces talk pieces
  pub took : input ≡ prepend_known (got pieces) left
  pub reads : ReadsBy result old pieces new

-- the input has ended only where it had, or none of it is left
abbrev pub EndsWell : TypeAhead → TypeAhead → Option (List ℕ) → Type 0
EndsWell old new left = new.has_ended ≡ true → (old.has_ended ≡ true) ⊎ IsAtEnd left

-- ---- terminals

-- a terminal, and what was typed there and isn't used yet
pub record TerminalState : Type 0 where
  pub link : LinkState
  pub ahead : TypeAhead

-- the next line was read there
abbrev pub ReadsLine : TerminalState → TerminalState → Result (Option TerminalLine) LinkError → Type 0
ReadsLine old new result = HasRead old.ahead new.ahead old.link.talk new.link.talk old.link.input new.link.input result
