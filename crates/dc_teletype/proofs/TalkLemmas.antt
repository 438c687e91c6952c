-- What passes on a link, one stretch after another.
use Rattle.std.proofs.Common.{◌≡◌, ℕ, List, [], ◌∷◌, ◌++◌, sym, ap, ◌∙◌, Option}
use Rattle.std.specs.Io.KnownBytes.{prepend_known}
use Rattle.dc_outside.specs.declared.link.Piece.{Piece}
use Rattle.dc_outside.specs.declared.link.Piece.TheVariants.{Sent}
use Rattle.dc_outside.specs.Talk.{then_pieces, got}
use Rattle.dc_serve.proofs.Talks.{then_pieces-nil, then_pieces-then_pieces, got-append, prepend-nil, prepend-append}

-- these pieces were said and got
pub record Passes (talk new_talk : Option (List Piece)) (input left : Option (List ℕ)) (pieces : List Piece) : Type 0 where
  pub told_is : new_talk ≡ then_pieces talk pieces
  pub took : input ≡ prepend_known (got pieces) left

pub passes_none : (talk : Option (List Piece)) (input : Option (List ℕ)) → Passes talk talk input input []
passes_none talk input = record { told_is = sym (then_pieces-nil talk); took = prepend-nil input }

pub passes_then : {talk between new : Option (List Piece)} {input middle left : Option (List ℕ)} {a b : List Piece} → Passes talk between input middle a → Passes between new middle left b → Passes talk new input left (a ++ b)
passes_then {talk} {between} {new} {input} {middle} {left} {a} {b} first second = record {
  told_is = second.told_is ∙ ap (λ (t : Option (List Piece)). then_pieces t b) first.told_is ∙ then_pieces-then_pieces talk a b;
  took = first.took ∙ ap (λ (l : Option (List ℕ)). prepend_known (got a) l) second.took ∙ prepend-append (got a) (got b) left ∙ ap (λ (l : List ℕ). prepend_known l left) (sym (got-append a b));
}

-- what was said in one write, and then what passes
pub passes_sent : (said : List ℕ) {talk sent new : Option (List Piece)} {input middle left : Option (List ℕ)} {pieces : List Piece}
    → sent ≡ then_pieces talk (Sent said ∷ []) → middle ≡ input → Passes sent new middle left pieces → Passes talk new input left (Sent said ∷ pieces)
passes_sent said {talk} {sent} {new} {input} {middle} {left} {pieces} told same rest = record {
  told_is = rest.told_is ∙ ap (λ (t : Option (List Piece)). then_pieces t pieces) told ∙ then_pieces-then_pieces talk (Sent said ∷ []) pieces;
  took = sym same ∙ rest.took;
}
