-- What a run says on its link, by its end.
use Rattle.std.specs.Prelude.{◌≡◌, ◌⊎◌, ℕ, ◌^◌, ◌<◌, ◌≤◌, List, [], ◌∷◌, ◌++◌, true, false, length, Option, IfSome}
use Rattle.std.specs.Io.KnownBytes.{prepend_known}
use Rattle.dc_words.specs.declared.stream.Line.{Line}
use Rattle.dc_words.specs.Stream.{whole_lines, all_lines}
use Rattle.dc_outside.specs.declared.link.Piece.{Piece}
use Rattle.dc_outside.specs.declared.link.Piece.TheVariants.{Cut, Lost}
use Rattle.dc_outside.specs.State.{LinkState}
use Rattle.dc_outside.specs.Talk.{then_pieces, got}
use Rattle.dc_serve.specs.declared.machine.Response.{Response}
use Rattle.dc_serve.specs.declared.outcome.LinkEnd.{LinkEnd}
use Rattle.dc_serve.specs.declared.outcome.LinkEnd.TheVariants.{Done, OutOfMemory, LinkFault, TooLong, Broken}
use Rattle.dc_serve.specs.Execution.{Transition, lines_of, stops, IsExecution}
use Rattle.dc_serve.specs.Said.{said, AreSaid, CutsShort, BreaksOff, IsBrokenAt}
use Rattle.dc_serve.specs.Calls.{FailsAtLast}
use Rattle.dc_serve.specs.Ends.{LinkCounts}
use Rattle.dc_serve.specs.Answering.{AnswersBeforeReads}

-- the bytes that came are the whole input, and fewer than the limit
pub record IsWhole (talk : List Piece) (input : Option (List ℕ)) : Type 0 where
  pub whole : IfSome input (λ bytes. got talk ≡ bytes)
  pub short : length (got talk) < 2 ^ 40

-- the lines that count: the whole lines that came, and the rest as a last one where the whole input came
abbrev pub AreServed : List Piece → Option (List ℕ) → List Line → Type 0
AreServed talk input lines = (lines ≡ whole_lines (got talk)) ⊎ ((lines ≡ all_lines (got talk)) × IsWhole talk input)

-- Each reply was sent whole. A line stopped the machine, or the input was read to its end and each of its lines had its turn,
-- the rest without a newline as a last one.
pub record IsDone {S : Type 0} (start : S) (transitions : List (Transition S)) (talk : List Piece) (input : Option (List ℕ)) (before : ℕ) (new : S) (code : ℕ) : Type 0 where
  pub are_said : AreSaid start transitions (said talk) before new code
  pub read : (stops transitions ≡ true) ⊎ ((lines_of transitions ≡ all_lines (got talk)) × IsWhole talk input)

-- all whole lines that came had their turns, and each reply was sent whole
pub record IsAtRead {S : Type 0} (start : S) (transitions : List (Transition S)) (talk : List Piece) (before : ℕ) (new : S) (code : ℕ) : Type 0 where
  pub are_said : AreSaid start transitions (said talk) before new code
  pub all_served : lines_of transitions ≡ whole_lines (got talk)
  pub on : stops transitions ≡ false

-- the last piece is a read that failed, and all whole lines had been answered
pub record IsLost {S : Type 0} (start : S) (transitions : List (Transition S)) (talk : List Piece) (code_before : ℕ) (new : S) (code : ℕ) : Type 0 where
  pub before : List Piece
  pub lost : talk ≡ before ++ Lost ∷ []
  pub short : length (got talk) < 2 ^ 40
  pub answered : IsAtRead start transitions talk code_before new code

-- the last piece is a write that failed: a front of the last turn's reply, and those before it were sent whole
pub record IsCut {S : Type 0} (transitions : List (Transition S)) (talk : List Piece) (new : S) (code : ℕ) : Type 0 where
  pub before : List Piece
  pub bytes : List ℕ
  pub cut : talk ≡ before ++ Cut bytes ∷ []
  pub answered : CutsShort transitions (said talk) new code

-- so many bytes came that no more are read, and all whole lines were answered
pub record IsTooLong {S : Type 0} (start : S) (transitions : List (Transition S)) (talk : List Piece) (before : ℕ) (new : S) (code : ℕ) : Type 0 where
  pub long : 2 ^ 40 ≤ length (got talk)
  pub answered : IsAtRead start transitions talk before new code

-- what the talk of a run over this input, its last state and the last code, which was another before, are, by its end
abbrev pub Answered : {S B : Type 0} → (S → Line → B → S → Type 0) → LinkEnd B → S → List (Transition S) → List Line → List Piece → Option (List ℕ) → ℕ → S → ℕ → Type 0
Answered aborts Done start transitions rest talk input before new code = IsDone start transitions talk input before new code
Answered aborts LinkFault start transitions rest talk input before new code = IsLost start transitions talk before new code ⊎ IsCut transitions talk new code
Answered aborts OutOfMemory start transitions rest talk input before new code = BreaksOff start transitions (said talk) before new code
Answered aborts TooLong start transitions rest talk input before new code = IsTooLong start transitions talk before new code
Answered aborts (Broken error) start transitions rest talk input before new code = IsBrokenAt aborts start transitions rest error (said talk) before new code

-- A run over this input added these pieces to the talk. It took the bytes that it got from the front of the input. The machine
-- took these turns, at the first of the lines that count; the run was in step, and said what these turns say. The code is that of the
-- last reply so far: it was another before, and stays where no reply was sent.
pub record IsLinkRun {S B : Type 0} (steps : S → Line → Response → S → Type 0) (aborts : S → Line → B → S → Type 0) (talk new_talk : Option (List Piece)) (input left : Option (List ℕ)) (start : S) (end : LinkEnd B) (new : S) (before code : ℕ) : Type 0 where
  pub pieces : List Piece
  pub told_is : new_talk ≡ then_pieces talk pieces
  pub took : input ≡ prepend_known (got pieces) left
  pub transitions : List (Transition S)
  pub rest : List Line
  pub course : IsExecution steps start transitions
  pub served : AreServed pieces input (lines_of transitions ++ rest)
  pub in_step : AnswersBeforeReads transitions pieces
  pub calls : FailsAtLast end pieces
  pub answered : Answered aborts end start transitions rest pieces input before new code

-- What serving a link to this end does to it: it has that run, its calls were counted by the end, and the program behind it stays.
pub record ServesLink {S B : Type 0} (steps : S → Line → Response → S → Type 0) (aborts : S → Line → B → S → Type 0) (old new : LinkState) (start : S) (end : LinkEnd B) (state : S) (before code : ℕ) : Type 0 where
  pub run : IsLinkRun steps aborts old.talk new.talk old.input new.input start end state before code
  pub counts : LinkCounts end old.counts new.counts
  pub program : new.program ≡ old.program
