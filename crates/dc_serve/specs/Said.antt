-- What is said of some turns.
use Rattle.std.specs.Prelude.{◌≡◌, ◌⊎◌, ℕ, List, [], ◌∷◌, ◌++◌, false}
use Rattle.dc_words.specs.declared.stream.Line.{Line}
use Rattle.dc_outside.specs.declared.link.Piece.{Piece}
use Rattle.dc_outside.specs.declared.link.Piece.TheVariants.{Got, Sent, Cut, Lost}
use Rattle.dc_serve.specs.declared.machine.Response.TheVariants.{Replied}
use Rattle.dc_serve.specs.Execution.{Transition, state_after, stops, replies, last_code_from}

-- what was written, whole or cut
abbrev pub said : List Piece → List Piece
said [] = []
said (Got bytes ∷ pieces) = said pieces
said (Sent bytes ∷ pieces) = Sent bytes ∷ said pieces
said (Cut bytes ∷ pieces) = Cut bytes ∷ said pieces
said (Lost ∷ pieces) = said pieces

-- the replies of all these turns are said, and this is the state that they leave
pub record AreSaid {S : Type 0} (start : S) (transitions : List (Transition S)) (pieces : List Piece) (code : ℕ) (new : S) (new_code : ℕ) : Type 0 where
  pub pieces_are : pieces ≡ replies transitions
  pub state_is : new ≡ state_after start transitions
  pub code_is : new_code ≡ last_code_from code transitions

-- of the last turn's reply a front is said
pub record CutsShort {S : Type 0} (transitions : List (Transition S)) (pieces : List Piece) (new : S) (new_code : ℕ) : Type 0 where
  pub gone : List (Transition S)
  pub last : Transition S
  pub turns_are : transitions ≡ gone ++ last ∷ []
  pub on : stops gone ≡ false
  pub text : List ℕ
  pub replied : last.did ≡ Replied new_code text
  pub front : List ℕ
  pub back : List ℕ
  pub front_of : text ≡ front ++ back
  pub pieces_are : pieces ≡ replies gone ++ Cut front ∷ []
  pub state_is : new ≡ last.new

-- of the last turn's reply nothing is said
pub record LeavesUnsaid {S : Type 0} (start : S) (transitions : List (Transition S)) (pieces : List Piece) (code : ℕ) (new : S) (new_code : ℕ) : Type 0 where
  pub gone : List (Transition S)
  pub last : Transition S
  pub turns_are : transitions ≡ gone ++ last ∷ []
  pub on : stops gone ≡ false
  pub pieces_are : pieces ≡ replies gone
  pub state_is : new ≡ last.new
  pub code_is : new_code ≡ last_code_from code gone

-- Memory ran out. Nothing was said of the last turn at most, and the lines behind it had none.
abbrev pub BreaksOff : {S : Type 0} → S → List (Transition S) → List Piece → ℕ → S → ℕ → Type 0
BreaksOff start transitions pieces code new new_code =
    ((stops transitions ≡ false) × AreSaid start transitions pieces code new new_code) ⊎ LeavesUnsaid start transitions pieces code new new_code

-- the machine broke at the line behind these turns, whose replies are said
pub record IsBrokenAt {S B : Type 0} (aborts : S → Line → B → S → Type 0) (start : S) (transitions : List (Transition S)) (rest : List Line) (error : B) (pieces : List Piece) (code : ℕ) (new : S) (new_code : ℕ) : Type 0 where
  pub on : stops transitions ≡ false
  pub line : Line
  pub more : List Line
  pub rest_is : rest ≡ line ∷ more
  pub broke : aborts (state_after start transitions) line error new
  pub pieces_are : pieces ≡ replies transitions
  pub code_is : new_code ≡ last_code_from code transitions
