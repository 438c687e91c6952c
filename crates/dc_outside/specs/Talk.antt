-- What is said on a link, in order.
use Rattle.std.specs.Prelude.{ℕ, List, [], ◌∷◌, ◌++◌, take, if◌then◌else◌, ◌==◌, Option, option_map}
use Rattle.dc_outside.specs.declared.link.Piece.{Piece}
use Rattle.dc_outside.specs.declared.link.Piece.TheVariants.{Got, Sent, Cut, Lost}

-- what is told of the talk, and then these pieces
abbrev pub then_pieces : Option (List Piece) → List Piece → Option (List Piece)
then_pieces talk pieces = option_map (λ before. before ++ pieces) talk

-- the bytes that came
abbrev pub got : List Piece → List ℕ
got [] = []
got (Got bytes ∷ pieces) = bytes ++ got pieces
got (Sent bytes ∷ pieces) = got pieces
got (Cut bytes ∷ pieces) = got pieces
got (Lost ∷ pieces) = got pieces

-- what each write sent
abbrev pub writes : List Piece → List (List ℕ)
writes [] = []
writes (Got bytes ∷ pieces) = writes pieces
writes (Sent bytes ∷ pieces) = bytes ∷ writes pieces
writes (Cut bytes ∷ pieces) = bytes ∷ writes pieces
writes (Lost ∷ pieces) = writes pieces

-- the bytes that were sent
abbrev pub sent : List Piece → List ℕ
sent [] = []
sent (Got bytes ∷ pieces) = sent pieces
sent (Sent bytes ∷ pieces) = bytes ++ sent pieces
sent (Cut bytes ∷ pieces) = bytes ++ sent pieces
sent (Lost ∷ pieces) = sent pieces

-- what so many bytes that came in a buffer add to the talk
abbrev pub come_pieces : ℕ → List ℕ → List Piece
come_pieces count buf = if count == 0 then [] else Got (take count buf) ∷ []
