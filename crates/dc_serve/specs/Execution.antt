-- The turns of a machine that is given lines, one after another.
use Rattle.std.specs.Prelude.{◌≡◌, ℕ, List, [], ◌∷◌, Bool, true, false, ◌||◌}
use Rattle.dc_words.specs.declared.stream.Line.{Line}
use Rattle.dc_outside.specs.declared.link.Piece.{Piece}
use Rattle.dc_outside.specs.declared.link.Piece.TheVariants.{Sent}
use Rattle.dc_serve.specs.declared.machine.Response.{Response}
use Rattle.dc_serve.specs.declared.machine.Response.TheVariants.{Silent, Replied, Stopped}

-- a line that came, what it did, and the state that it left
pub record Transition (S : Type 0) : Type 0 where
  pub line : Line
  pub did : Response
  pub new : S

abbrev pub lines_of : {S : Type 0} → List (Transition S) → List Line
lines_of [] = []
lines_of (transition ∷ transitions) = transition.line ∷ lines_of transitions

-- the state that these turns leave
abbrev pub state_after : {S : Type 0} → S → List (Transition S) → S
state_after start [] = start
state_after start (transition ∷ transitions) = state_after transition.new transitions

abbrev pub is_stop : Response → Bool
is_stop Silent = false
is_stop (Replied code text) = false
is_stop Stopped = true

-- whether one of these turns is a stop
abbrev pub stops : {S : Type 0} → List (Transition S) → Bool
stops [] = false
stops (transition ∷ transitions) = is_stop transition.did || stops transitions

abbrev pub add_reply : Response → List Piece → List Piece
add_reply Silent later = later
add_reply (Replied code text) later = Sent text ∷ later
add_reply Stopped later = later

-- the pieces that the replies are sent as
abbrev pub replies : {S : Type 0} → List (Transition S) → List Piece
replies [] = []
replies (transition ∷ transitions) = add_reply transition.did (replies transitions)

abbrev pub code_after : ℕ → Response → ℕ
code_after code Silent = code
code_after code (Replied new text) = new
code_after code Stopped = code

-- the code of the last reply, and the one before where there is none
abbrev pub last_code_from : {S : Type 0} → ℕ → List (Transition S) → ℕ
last_code_from code [] = code
last_code_from code (transition ∷ transitions) = last_code_from (code_after code transition.did) transitions

-- the machine takes these turns, one after another, and none follows a stop
abbrev pub IsExecution : {S : Type 0} → (S → Line → Response → S → Type 0) → S → List (Transition S) → Type 0
IsExecution steps start [] = Unit {0}
IsExecution steps start (transition ∷ transitions) = steps start transition.line transition.did transition.new × (is_stop transition.did ≡ true → transitions ≡ []) × IsExecution steps transition.new transitions
