-- A run in step: what was said whenever more was read.
use Rattle.std.specs.Prelude.{◌≡◌, List, ◌∷◌, ◌++◌, false, ⊤}
use Rattle.dc_words.specs.Stream.{whole_lines}
use Rattle.dc_outside.specs.declared.link.Piece.{Piece}
use Rattle.dc_outside.specs.declared.link.Piece.TheVariants.{Got, Sent, Cut, Lost}
use Rattle.dc_outside.specs.Talk.{got}
use Rattle.dc_serve.specs.Execution.{Transition, lines_of, stops, replies}
use Rattle.dc_serve.specs.Said.{said}

-- a read: bytes came, or it failed
abbrev pub IsRead : Piece → Type 0
IsRead (Got bytes) = ⊤
IsRead (Sent bytes) = ⊥
IsRead (Cut bytes) = ⊥
IsRead Lost = ⊤

-- all whole lines got had their turns, the first ones of the run. Their replies are sent, and none of them is a stop.
pub record IsCaughtUp {S : Type 0} (transitions : List (Transition S)) (talk : List Piece) : Type 0 where
  pub gone : List (Transition S)
  pub later : List (Transition S)
  pub turns_are : transitions ≡ gone ++ later
  pub lines_are : lines_of gone ≡ whole_lines (got talk)
  pub all_sent : said talk ≡ replies gone
  pub none_stops : stops gone ≡ false

-- wherever a read follows in the talk, what stands before it is caught up
abbrev pub AnswersBeforeReads : {S : Type 0} → List (Transition S) → List Piece → Type 0
AnswersBeforeReads transitions talk = (before : List Piece) (piece : Piece) (later : List Piece) → talk ≡ before ++ piece ∷ later → IsRead piece → IsCaughtUp transitions before
