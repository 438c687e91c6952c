-- Laws of talks that grow.
use Rattle.std.proofs.Common.{◌≡◌, ◌⊎◌, inl, inr, ℕ, List, [], ◌∷◌, ◌++◌, refl, ap, sym, ◌∙◌, subst, append_assoc, Option, None, Some}
use Rattle.std.proofs.lemmas.List.{append-nil}
use Rattle.std.specs.Io.KnownBytes.{prepend_known}
use Rattle.dc_outside.specs.declared.link.Piece.{Piece}
use Rattle.dc_outside.specs.declared.link.Piece.TheVariants.{Got, Sent, Cut, Lost}
use Rattle.dc_outside.specs.Talk.{then_pieces, got}
use Rattle.dc_serve.specs.declared.machine.Response.{Response}
use Rattle.dc_serve.specs.declared.machine.Response.TheVariants.{Silent, Replied, Stopped}
use Rattle.dc_serve.specs.Execution.{Transition, add_reply, replies}
use Rattle.dc_serve.specs.Said.{said}
use Rattle.dc_serve.specs.Answering.{IsRead, IsCaughtUp, AnswersBeforeReads}

pub then_pieces-nil : (talk : Option (List Piece)) → then_pieces talk [] ≡ talk
then_pieces-nil None = refl
then_pieces-nil (Some pieces) = ap (λ (l : List Piece). Some l) (append-nil pieces)

pub then_pieces-then_pieces : (talk : Option (List Piece)) (a b : List Piece) → then_pieces (then_pieces talk a) b ≡ then_pieces talk (a ++ b)
then_pieces-then_pieces None a b = refl
then_pieces-then_pieces (Some pieces) a b = ap (λ (l : List Piece). Some l) (append_assoc pieces a b)

pub said-append : (a b : List Piece) → said (a ++ b) ≡ said a ++ said b
said-append [] b = refl
said-append (Got bytes ∷ a) b = said-append a b
said-append (Sent bytes ∷ a) b = ap (λ (l : List Piece). Sent bytes ∷ l) (said-append a b)
said-append (Cut bytes ∷ a) b = ap (λ (l : List Piece). Cut bytes ∷ l) (said-append a b)
said-append (Lost ∷ a) b = said-append a b

pub got-append : (a b : List Piece) → got (a ++ b) ≡ got a ++ got b
got-append [] b = refl
got-append (Got bytes ∷ a) b = ap (λ (l : List ℕ). bytes ++ l) (got-append a b) ∙ sym (append_assoc bytes (got a) (got b))
got-append (Sent bytes ∷ a) b = got-append a b
got-append (Cut bytes ∷ a) b = got-append a b
got-append (Lost ∷ a) b = got-append a b

pub prepend-nil : (left : Option (List ℕ)) → left ≡ prepend_known [] left
prepend-nil None = refl
prepend-nil (Some bytes) = refl

pub prepend-append : (a b : List ℕ) (left : Option (List ℕ)) → prepend_known a (prepend_known b left) ≡ prepend_known (a ++ b) left
prepend-append a b None = refl
prepend-append a b (Some bytes) = ap (λ (l : List ℕ). Some l) (sym (append_assoc a b bytes))

pub no_split : (before later : List Piece) (piece : Piece) → [] ≡ before ++ piece ∷ later → ⊥
no_split [] later piece is = cc
no_split (first ∷ before) later piece is = cc

-- a place in a list with one more at its end is that end, or a place in the list
pub last_or_before : (talk before later : List Piece) (newest piece : Piece) → talk ++ newest ∷ [] ≡ before ++ piece ∷ later
    → ((before ≡ talk) × (piece ≡ newest) × (later ≡ [])) ⊎ ((rest : List Piece) × (talk ≡ before ++ piece ∷ rest) × (later ≡ rest ++ newest ∷ []))
last_or_before [] [] later newest piece is = inl (refl, cc, cc)
last_or_before [] (first ∷ before) later newest piece is = absurd (no_split before later piece cc)
last_or_before (here ∷ talk) [] later newest piece is = inr (talk, cc, cc)
last_or_before (here ∷ talk) (first ∷ before) later newest piece is =
    let tail : talk ++ newest ∷ [] ≡ before ++ piece ∷ later = cc in
    let head : here ≡ first = cc in
    elim (last_or_before talk before later newest piece tail) [
      | inl at ↦ inl (cc, at.1, at.2)
      | inr at ↦ inr (at.0, cc, at.2)
    ]

said_reply : (did : Response) (later : List Piece) → said later ≡ later → said (add_reply did later) ≡ add_reply did later
said_reply Silent later is = is
said_reply (Replied code text) later is = ap (λ (l : List Piece). Sent text ∷ l) is
said_reply Stopped later is = is

got_reply : (did : Response) (later : List Piece) → got later ≡ [] → got (add_reply did later) ≡ []
got_reply Silent later is = is
got_reply (Replied code text) later is = is
got_reply Stopped later is = is

module _ {S : Type 0} where
  -- replies are written
  pub said-replies : (transitions : List (Transition S)) → said (replies transitions) ≡ replies transitions
  said-replies [] = refl
  said-replies (transition ∷ transitions) = said_reply transition.did (replies transitions) (said-replies transitions)

  pub got-replies : (transitions : List (Transition S)) → got (replies transitions) ≡ []
  got-replies [] = refl
  got-replies (transition ∷ transitions) = got_reply transition.did (replies transitions) (got-replies transitions)

  pub in_step_none : (transitions : List (Transition S)) → AnswersBeforeReads transitions []
  in_step_none transitions before piece later is read = absurd (no_split before later piece is)

  -- a read follows where all is answered
  pub in_step_read : (transitions : List (Transition S)) (talk : List Piece) (newest : Piece) → AnswersBeforeReads transitions talk → IsCaughtUp transitions talk → AnswersBeforeReads transitions (talk ++ newest ∷ [])
  in_step_read transitions talk newest step caught before piece later is read = elim (last_or_before talk before later newest piece is) [
    | inl at ↦ rw at.0 caught
    | inr at ↦ step before piece at.0 at.1 read
  ]

  -- what is written may follow at any time
  pub in_step_written : (transitions : List (Transition S)) (talk : List Piece) (newest : Piece) → AnswersBeforeReads transitions talk → (IsRead newest → ⊥) → AnswersBeforeReads transitions (talk ++ newest ∷ [])
  in_step_written transitions talk newest step written before piece later is read = elim (last_or_before talk before later newest piece is) [
    | inl at ↦ absurd (written (subst IsRead at.1 read))
    | inr at ↦ step before piece at.0 at.1 read
  ]

  in_step_reply : (transitions : List (Transition S)) (talk : List Piece) (did : Response) (later : List Piece) → ((talk : List Piece) → AnswersBeforeReads transitions talk → AnswersBeforeReads transitions (talk ++ later))
      → AnswersBeforeReads transitions talk → AnswersBeforeReads transitions (talk ++ add_reply did later)
  in_step_reply transitions talk Silent later more step = more talk step
  in_step_reply transitions talk (Replied code text) later more step =
      rw (← append_assoc talk (Sent text ∷ []) later) (more (talk ++ Sent text ∷ []) (in_step_written transitions talk (Sent text) step (λ read. read)))
  in_step_reply transitions talk Stopped later more step = more talk step

  pub in_step_replies : (transitions : List (Transition S)) (talk : List Piece) (served : List (Transition S)) → AnswersBeforeReads transitions talk → AnswersBeforeReads transitions (talk ++ replies served)
  in_step_replies transitions talk [] step = rw append-nil step
  in_step_replies transitions talk (transition ∷ served) step =
      in_step_reply transitions talk transition.did (replies served) (λ (talk : List Piece) (s : AnswersBeforeReads transitions talk). in_step_replies transitions talk served s) step

  -- more turns follow
  pub in_step_later : (transitions more : List (Transition S)) (talk : List Piece) → AnswersBeforeReads transitions talk → AnswersBeforeReads (transitions ++ more) talk
  in_step_later transitions more talk step before piece later is read =
      let caught = step before piece later is read in
      record {
        gone = caught.gone;
        later = caught.later ++ more;
        turns_are = rw (caught.turns_are, append_assoc) refl;
        lines_are = caught.lines_are;
        all_sent = caught.all_sent;
        none_stops = caught.none_stops;
      }
