-- What each call does to a link, by its answer.
use Rattle.std.specs.Prelude.{◌≡◌, ◌≤◌, ℕ, List, [], ◌∷◌, ◌++◌, length, Result, Ok, Err}
use Rattle.std.specs.Io.KnownBytes.{prepend_known, IsAtEnd}
use Rattle.dc_outside.specs.Counts.{FaultRose, RefusalRose}
use Rattle.dc_outside.specs.Programs.{Began, FailureRose, ended}
use Rattle.dc_outside.specs.State.{LinkState}
use Rattle.dc_outside.specs.Talk.{then_pieces, got, come_pieces}
use Rattle.dc_outside.specs.declared.link.LinkError.{LinkError}
use Rattle.dc_outside.specs.declared.link.LinkError.TheVariants.{Failed, OutOfMemory}
use Rattle.dc_outside.specs.declared.link.Piece.TheVariants.{Sent, Cut, Lost}

-- The call was refused for want of memory: nothing but the count of refusals changed.
pub record IsRefused (old new : LinkState) : Type 0 where
  pub state : new ≡ record old { counts = new.counts }
  pub rose : RefusalRose old.counts new.counts

-- ---- reads

-- So many bytes came from the front of the input, none only at its end. How often its end was found isn't told.
pub record Comes (count : ℕ) (buf : List ℕ) (old new : LinkState) : Type 0 where
  pub bound : count ≤ length buf
  pub took : old.input ≡ prepend_known (got (come_pieces count buf)) new.input
  pub end : count ≡ 0 → IsAtEnd new.input
  pub state : new ≡ record old { talk = then_pieces old.talk (come_pieces count buf); input = new.input }

-- a read failed, and that is said
pub record IsLostAt (old new : LinkState) : Type 0 where
  pub state : new ≡ record old { talk = then_pieces old.talk (Lost ∷ []); counts = new.counts }
  pub rose : FaultRose old.counts new.counts

-- a read into a buffer, which then is this
abbrev pub Reads : List ℕ → LinkState → LinkState → Result ℕ LinkError → Type 0
Reads buf old new (Ok count) = Comes count buf old new
Reads buf old new (Err Failed) = IsLostAt old new
Reads buf old new (Err OutOfMemory) = IsRefused old new

-- ---- writes

-- a write failed, and a front of the bytes was sent
pub record IsCutAt (bytes : List ℕ) (old new : LinkState) : Type 0 where
  pub front : List ℕ
  pub back : List ℕ
  pub bytes_are : bytes ≡ front ++ back
  pub state : new ≡ record old { talk = then_pieces old.talk (Cut front ∷ []); counts = new.counts }
  pub rose : FaultRose old.counts new.counts

-- a write of the bytes
abbrev pub Sends : {T : Type 0} → List ℕ → LinkState → LinkState → Result T LinkError → Type 0
Sends bytes old new (Ok done) = new ≡ record old { talk = then_pieces old.talk (Sent bytes ∷ []) }
Sends bytes old new (Err Failed) = IsCutAt bytes old new
Sends bytes old new (Err OutOfMemory) = IsRefused old new

-- a text is told on the link, in one write where there is one, as far as that takes it
abbrev pub Tells : List ℕ → LinkState → LinkState → Type 0
Tells [] old new = new ≡ old
Tells (byte ∷ bytes) old new = (answer : Result (Unit {0}) LinkError) × Sends (byte ∷ bytes) old new answer

-- ---- the program behind the link

-- it runs from now on, with these words
pub record IsStarted (words : List (List ℕ)) (old new : LinkState) : Type 0 where
  pub state : new ≡ record old { program = new.program }
  pub began : Began words old.program new.program

-- a start or a wait failed, and nothing but the count of these failures changed
pub record IsFailed (old new : LinkState) : Type 0 where
  pub state : new ≡ record old { program = new.program }
  pub rose : FailureRose old.program new.program

-- a start with these words
abbrev pub Starts : {T : Type 0} → List (List ℕ) → LinkState → LinkState → Result T LinkError → Type 0
Starts words old new (Ok value) = IsStarted words old new
Starts words old new (Err Failed) = IsFailed old new
Starts words old new (Err OutOfMemory) = IsRefused old new

-- A wait for it. What ended keeps the talk as it stood then, so that all that was said on the link was said before.
abbrev pub Waits : {E : Type 0} → LinkState → LinkState → Result ℕ E → Type 0
Waits old new (Ok status) = new ≡ record old { program = record old.program { life = ended old.program.life status old.talk } }
Waits old new (Err error) = IsFailed old new
