-- Where the machine is a function, the lines determine the turns.
use Rattle.std.proofs.Common.{◌≡◌, List, [], ◌∷◌, refl}
use Rattle.dc_words.specs.declared.stream.Line.{Line}
use Rattle.dc_serve.specs.declared.machine.Response.{Response}
use Rattle.dc_serve.specs.Execution.{Transition, lines_of, IsExecution}
use Rattle.dc_serve.specs.Determined.{IsFunction}

module _ {S : Type 0} (steps : S → Line → Response → S → Type 0) (function : IsFunction steps) where
  pub determined : (start : S) (a b : List (Transition S)) → IsExecution steps start a → IsExecution steps start b → lines_of a ≡ lines_of b → a ≡ b
  determined start [] [] first second same = refl
  determined start [] (transition ∷ b) first second same = cc
  determined start (transition ∷ a) [] first second same = cc
  determined start (one ∷ a) (other ∷ b) first second same =
      let line : one.line ≡ other.line = cc in
      let rest : lines_of a ≡ lines_of b = cc in
      let here = function start other.line one.did other.did one.new other.new (rw (← line) first.0) second.0 in
      let later : a ≡ b = determined one.new a b first.2 (rw here.1 second.2) rest in
      λ i. record { line = line i; did = here.0 i; new = here.1 i } ∷ later i
