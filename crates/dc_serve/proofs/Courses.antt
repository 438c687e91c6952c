-- Turns that follow others.
use Rattle.std.proofs.Common.{◌≡◌, ℕ, Bool, true, false, ◌||◌, List, [], ◌∷◌, ◌++◌, refl, ap, sym, ◌∙◌}
use Rattle.dc_words.specs.declared.stream.Line.{Line}
use Rattle.dc_outside.specs.declared.link.Piece.{Piece}
use Rattle.dc_serve.specs.declared.machine.Response.{Response}
use Rattle.dc_serve.specs.declared.machine.Response.TheVariants.{Silent, Replied, Stopped}
use Rattle.dc_serve.specs.Execution.{Transition, lines_of, state_after, is_stop, stops, add_reply, replies, code_after, last_code_from, IsExecution}

both_off : (a b : Bool) → (a || b) ≡ false → (a ≡ false) × (b ≡ false)
both_off false b off = (refl, off)
both_off true b off = cc

apart : true ≡ false → ⊥
apart e = cc

add_reply-append : (did : Response) (a b : List Piece) → add_reply did (a ++ b) ≡ add_reply did a ++ b
add_reply-append Silent a b = refl
add_reply-append (Replied code text) a b = refl
add_reply-append Stopped a b = refl

module _ {S : Type 0} where
  pub lines_of-append : (a b : List (Transition S)) → lines_of (a ++ b) ≡ lines_of a ++ lines_of b
  lines_of-append [] b = refl
  lines_of-append (transition ∷ a) b = ap (λ (l : List Line). transition.line ∷ l) (lines_of-append a b)

  pub state_after-append : (start : S) (a b : List (Transition S)) → state_after start (a ++ b) ≡ state_after (state_after start a) b
  state_after-append start [] b = refl
  state_after-append start (transition ∷ a) b = state_after-append transition.new a b

  pub stops-append : (a b : List (Transition S)) → stops a ≡ false → stops (a ++ b) ≡ stops b
  stops-append [] b on = refl
  stops-append (transition ∷ a) b on = let h = both_off (is_stop transition.did) (stops a) on in rw h.0 (stops-append a b h.1)

  pub replies-append : (a b : List (Transition S)) → replies (a ++ b) ≡ replies a ++ replies b
  replies-append [] b = refl
  replies-append (transition ∷ a) b = ap (λ (l : List Piece). add_reply transition.did l) (replies-append a b) ∙ add_reply-append transition.did (replies a) (replies b)

  pub last_code_from-append : (code : ℕ) (a b : List (Transition S)) → last_code_from code (a ++ b) ≡ last_code_from (last_code_from code a) b
  last_code_from-append code [] b = refl
  last_code_from-append code (transition ∷ a) b = last_code_from-append (code_after code transition.did) a b

  pub course-append : (steps : S → Line → Response → S → Type 0) (start : S) (a b : List (Transition S)) → stops a ≡ false → IsExecution steps start a → IsExecution steps (state_after start a) b → IsExecution steps start (a ++ b)
  course-append steps start [] b on first second = second
  course-append steps start (transition ∷ a) b on first second =
      let h = both_off (is_stop transition.did) (stops a) on in
      (first.0, (λ (stop : is_stop transition.did ≡ true). absurd (apart (sym stop ∙ h.0))), course-append steps transition.new a b h.1 first.2 second)
