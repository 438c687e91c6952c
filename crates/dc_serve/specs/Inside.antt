-- What the inner functions of the loop promise. No public clause cites these: they are the machinery of the proof of a run.
use Rattle.std.specs.Prelude.{◌≡◌, ◌⊎◌, ℕ, List, [], ◌∷◌, ◌++◌, true, false, Option}
use Rattle.dc_words.specs.declared.stream.Line.{Line}
use Rattle.dc_outside.specs.declared.link.Piece.{Piece}
use Rattle.dc_outside.specs.declared.link.Piece.TheVariants.{Sent}
use Rattle.dc_outside.specs.Counts.{Counts, FaultRose, RefusalRose}
use Rattle.dc_outside.specs.LinkCalls.{IsCutAt, IsRefused}
use Rattle.dc_outside.specs.State.{LinkState}
use Rattle.dc_outside.specs.Talk.{then_pieces}
use Rattle.dc_serve.specs.declared.machine.Response.{Response}
use Rattle.dc_serve.specs.declared.machine.Response.TheVariants as did
use Rattle.dc_serve.specs.declared.outcome.LinkEnd.{LinkEnd}
use Rattle.dc_serve.specs.declared.outcome.LinkEnd.TheVariants as link
use Rattle.dc_serve.specs.declared.outcome.Served.{Served}
use Rattle.dc_serve.specs.declared.outcome.Served.TheVariants.{On, Stopped, Failed, OutOfMemory, Broken}
use Rattle.dc_serve.specs.Execution.{Transition, lines_of, stops, IsExecution}
use Rattle.dc_serve.specs.Said.{AreSaid, CutsShort, BreaksOff, IsBrokenAt}

-- the end of a link whose serving ended so
abbrev pub link_end_of : {B : Type 0} → Served B → LinkEnd B
link_end_of On = link.Done
link_end_of Stopped = link.Done
link_end_of Failed = link.LinkFault
link_end_of OutOfMemory = link.OutOfMemory
link_end_of (Broken error) = link.Broken error

-- all lines had their turns, and none of these is a stop
pub record Goes {S : Type 0} (start : S) (transitions : List (Transition S)) (rest : List Line) (pieces : List Piece) (code : ℕ) (new : S) (new_code : ℕ) : Type 0 where
  pub are_said : AreSaid start transitions pieces code new new_code
  pub on : stops transitions ≡ false
  pub none_left : rest ≡ []

-- the last turn is a stop
pub record Stops {S : Type 0} (start : S) (transitions : List (Transition S)) (pieces : List Piece) (code : ℕ) (new : S) (new_code : ℕ) : Type 0 where
  pub are_said : AreSaid start transitions pieces code new new_code
  pub stopped : stops transitions ≡ true

-- serving some lines by these turns, with this outcome and these lines left, says these pieces
abbrev pub Serves : {S B : Type 0} → (S → Line → B → S → Type 0) → S → List (Transition S) → List Line → Served B → List Piece → ℕ → S → ℕ → Type 0
Serves aborts start transitions rest On pieces code new new_code = Goes start transitions rest pieces code new new_code
Serves aborts start transitions rest Stopped pieces code new new_code = Stops start transitions pieces code new new_code
Serves aborts start transitions rest Failed pieces code new new_code = CutsShort transitions pieces new new_code
Serves aborts start transitions rest OutOfMemory pieces code new new_code = BreaksOff start transitions pieces code new new_code
Serves aborts start transitions rest (Broken error) pieces code new new_code = IsBrokenAt aborts start transitions rest error pieces code new new_code

-- serving these lines said some pieces, which are the answer to them
pub record HasServed {S B : Type 0} (steps : S → Line → Response → S → Type 0) (aborts : S → Line → B → S → Type 0) (talk new_talk : Option (List Piece)) (start : S) (lines : List Line) (outcome : Served B) (code : ℕ) (new : S) (new_code : ℕ) : Type 0 where
  pub transitions : List (Transition S)
  pub rest : List Line
  pub lines_are : lines ≡ lines_of transitions ++ rest
  pub course : IsExecution steps start transitions
  pub pieces : List Piece
  pub told_is : new_talk ≡ then_pieces talk pieces
  pub serves : Serves aborts start transitions rest outcome pieces code new new_code

-- what sending one reply does to the link, and to the last code
abbrev pub SendsReply : {B : Type 0} → Served B → LinkState → LinkState → ℕ → List ℕ → ℕ → ℕ → Type 0
SendsReply On old new code text last new_last = (new ≡ record old { talk = then_pieces old.talk (Sent text ∷ []) }) × (new_last ≡ code)
SendsReply Stopped old new code text last new_last = ⊥
SendsReply Failed old new code text last new_last = IsCutAt text old new × (new_last ≡ code)
SendsReply OutOfMemory old new code text last new_last = IsRefused old new × (new_last ≡ last)
SendsReply (Broken error) old new code text last new_last = ⊥

-- what answering a line does to the link, and to the last code: its reply is sent, where it has one
abbrev pub AnswersLine : {B : Type 0} → Response → Served B → LinkState → LinkState → ℕ → ℕ → Type 0
AnswersLine did.Silent served old new last new_last = (served ≡ On) × (new ≡ old) × (new_last ≡ last)
AnswersLine (did.Replied code text) served old new last new_last = SendsReply served old new code text last new_last
AnswersLine did.Stopped served old new last new_last = (served ≡ Stopped) × (new ≡ old) × (new_last ≡ last)

-- how the link counted the calls of a serving
abbrev pub ServedCounts : {B : Type 0} → Served B → Counts → Counts → Type 0
ServedCounts On before now = now ≡ before
ServedCounts Stopped before now = now ≡ before
ServedCounts Failed before now = FaultRose before now
ServedCounts OutOfMemory before now = RefusalRose before now ⊎ (now ≡ before)
ServedCounts (Broken error) before now = now ≡ before

-- What serving these lines does to the link: some pieces were said, which are the answer to them, and nothing else changed but
-- the counts.
pub record ServesLines {S B : Type 0} (steps : S → Line → Response → S → Type 0) (aborts : S → Line → B → S → Type 0) (old new : LinkState) (start : S) (lines : List Line) (outcome : Served B) (code : ℕ) (state : S) (new_code : ℕ) : Type 0 where
  pub served : HasServed steps aborts old.talk new.talk start lines outcome code state new_code
  pub counts : ServedCounts outcome old.counts new.counts
  pub rest : new ≡ record old { talk = new.talk; counts = new.counts }
