-- The lines of a text. A line is ended by a newline, and a last one without a newline is a line where it isn't empty.
use Rattle.std.specs.Prelude.{◌≡◌, ℕ, Bool, false, List, [], ◌∷◌, ◌++◌, if◌then◌else◌, ◌==◌}
use Rattle.std.specs.List.{flat_map, list_any, AllByRecursion}
use Rattle.dc_text.specs.Ascii.{newline}

-- the lines that a newline ends, without it, and what stands behind the last newline
pub record TextLines : Type 0 where
  pub ended : List (List ℕ)
  pub rest : List ℕ

-- a byte other than a newline, in front: of the first line, or of the rest where no line is ended
abbrev pub onto_first : ℕ → List (List ℕ) → List ℕ → TextLines
onto_first byte [] rest = record { ended = []; rest = byte ∷ rest }
onto_first byte (line ∷ lines) rest = record { ended = (byte ∷ line) ∷ lines; rest = rest }

abbrev pub text_lines : List ℕ → TextLines
text_lines [] = record { ended = []; rest = [] }
text_lines (byte ∷ bytes) =
    if byte == newline then record { ended = [] ∷ (text_lines bytes).ended; rest = (text_lines bytes).rest }
    else onto_first byte (text_lines bytes).ended (text_lines bytes).rest

-- what isn't empty, as a list of one
abbrev pub unless_empty : List ℕ → List (List ℕ)
unless_empty [] = []
unless_empty (byte ∷ bytes) = (byte ∷ bytes) ∷ []

-- the lines of a whole text
abbrev pub lines_of : List ℕ → List (List ℕ)
lines_of text = (text_lines text).ended ++ unless_empty (text_lines text).rest

-- the lines as a text, each ended by a newline
abbrev pub text_of : List (List ℕ) → List ℕ
text_of lines = flat_map (λ line. line ++ newline ∷ []) lines

-- a newline stands in the bytes
abbrev pub has_newline : List ℕ → Bool
has_newline bytes = list_any (λ byte. byte == newline) bytes

-- no newline stands in a line
abbrev pub HaveNoNewline : List (List ℕ) → Type 0
HaveNoNewline lines = AllByRecursion (λ line. has_newline line ≡ false) lines
