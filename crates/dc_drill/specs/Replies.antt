-- Which pieces of a talk are replies of code 0 or 1, and which are others.
use Rattle.std.specs.Prelude.{ℕ, Bool, false, ◌&&◌, ◌||◌, ◌==◌, not, List, ◌∷◌}
use Rattle.dc_text.specs.Ascii.{space, newline}
use Rattle.dc_outside.specs.declared.link.Piece.{Piece}
use Rattle.dc_outside.specs.declared.link.Piece.TheVariants.{Sent}

-- the code of a reply is 0 or 1: one of these digits stands alone before its text, or before its end
abbrev pub is_ok : List ℕ → Bool
is_ok (digit ∷ next ∷ rest) = (digit == 48 || digit == 49) && (next == space || next == newline)
is_ok _ = false

-- a reply of code 0 or 1 was sent
abbrev pub sends_ok : Piece → Bool
sends_ok (Sent reply) = is_ok reply
sends_ok _ = false

-- another reply was sent
abbrev pub sends_refusal : Piece → Bool
sends_refusal (Sent reply) = not (is_ok reply)
sends_refusal _ = false
