-- What is sent by more than one piece.
use Rattle.std.proofs.Common.{◌≡◌, List, [], ◌∷◌, ◌++◌, refl, sym, ap, ◌∙◌, append_assoc}
use Rattle.dc_outside.specs.declared.link.Piece.{Piece}
use Rattle.dc_outside.specs.declared.link.Piece.TheVariants.{Got, Sent, Cut, Lost}
use Rattle.dc_outside.specs.Talk.{sent}

pub sent-append : (xs ys : List Piece) → sent (xs ++ ys) ≡ sent xs ++ sent ys
sent-append [] ys = refl
sent-append (Got bytes ∷ xs) ys = sent-append xs ys
sent-append (Sent bytes ∷ xs) ys = ap (λ l. bytes ++ l) (sent-append xs ys) ∙ sym (append_assoc bytes (sent xs) (sent ys))
sent-append (Cut bytes ∷ xs) ys = ap (λ l. bytes ++ l) (sent-append xs ys) ∙ sym (append_assoc bytes (sent xs) (sent ys))
sent-append (Lost ∷ xs) ys = sent-append xs ys
