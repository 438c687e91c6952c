-- The lines of a stream of bytes, as far as it came.
use Rattle.std.specs.Prelude.{◌≡◌, ℕ, List, [], ◌∷◌, ◌++◌, if◌then◌else◌, nat_le, length, map, zero, suc}
use Rattle.std.specs.List.{concat}
use Rattle.dc_text.specs.Lines.{text_lines, unless_empty}
use Rattle.dc_words.specs.declared.stream.Line.{Line}
use Rattle.dc_words.specs.declared.stream.Line.TheVariants.{Whole, TooLong}

-- the longest line that is whole
abbrev pub max_line : ℕ
max_line = 1048576

-- what a line is seen as: past the limit, only that it was too long
abbrev pub line_of : List ℕ → Line
line_of bytes = if nat_le (length bytes) max_line then Whole bytes else TooLong

-- the lines of the bytes that a newline ends, in order
abbrev pub whole_lines : List ℕ → List Line
whole_lines bytes = map line_of (text_lines bytes).ended

-- the first n bytes. It goes by the list, since `take` at a long numeral unfolds as often
abbrev pub clip : List ℕ → ℕ → List ℕ
clip [] n = []
clip (byte ∷ bytes) zero = []
clip (byte ∷ bytes) (suc n) = byte ∷ clip bytes n

-- as many bytes as tell whether a line is too long, and those of one that isn't
abbrev pub clipped : List ℕ → List ℕ
clipped bytes = clip bytes 1048577

-- the bytes behind the last newline, as far as they matter
abbrev pub rest_of : List ℕ → List ℕ
rest_of bytes = clipped (text_lines bytes).rest

-- a rest that isn't empty is a line too
abbrev pub line_of_rest : List ℕ → List Line
line_of_rest rest = map line_of (unless_empty rest)

-- the whole lines, and the rest as a last one
abbrev pub all_lines : List ℕ → List Line
all_lines bytes = whole_lines bytes ++ line_of_rest (rest_of bytes)

-- new stands for the same lines as old, and for the same rest
pub record StandsFor (old new : List ℕ) : Type 0 where
  pub lines : whole_lines new ≡ whole_lines old
  pub rest : rest_of new ≡ rest_of old

-- ---- bytes that come in pieces

-- the lines of the pieces, where each comes behind the rest of those before it
abbrev pub lines_by_pieces : List ℕ → List (List ℕ) → List Line
lines_by_pieces rest [] = []
lines_by_pieces rest (piece ∷ pieces) = whole_lines (rest ++ piece) ++ lines_by_pieces (rest_of (rest ++ piece)) pieces

-- the rest that the last piece leaves
abbrev pub rest_by_pieces : List ℕ → List (List ℕ) → List ℕ
rest_by_pieces rest [] = rest
rest_by_pieces rest (piece ∷ pieces) = rest_by_pieces (rest_of (rest ++ piece)) pieces

-- however the bytes are cut, these are their lines and their rest
pub record AreCutAnyway (pieces : List (List ℕ)) : Type 0 where
  pub lines : lines_by_pieces [] pieces ≡ whole_lines (concat pieces)
  pub rest : rest_by_pieces [] pieces ≡ rest_of (concat pieces)

-- of all that was fed these lines were taken, and the held bytes have the lines that are left, and the rest
pub record IsTaken (fed : List ℕ) (taken : List Line) (held : List ℕ) : Type 0 where
  pub lines : whole_lines fed ≡ taken ++ whole_lines held
  pub rest : rest_of fed ≡ rest_of held
