-- Settled texts: those without the pair of bytes backslash and n, which stands for a newline where values are written.
use Rattle.std.specs.Prelude.{ℕ, Bool, true, not, ◌&&◌, ◌==◌, List, [], ◌∷◌, if◌then◌else◌}
use Rattle.dc_text.specs.Ascii.{backslash, letter_n, newline}

-- from left to right, each pair of a backslash and an n is a newline
abbrev pub settled : List ℕ → List ℕ
settled [] = []
settled (byte ∷ []) = byte ∷ []
settled (byte ∷ next ∷ bytes) =
    if byte == backslash && next == letter_n then newline ∷ settled bytes else byte ∷ settled (next ∷ bytes)

-- the pair stands nowhere
abbrev pub is_settled : List ℕ → Bool
is_settled [] = true
is_settled (byte ∷ []) = true
is_settled (byte ∷ next ∷ bytes) = not (byte == backslash && next == letter_n) && is_settled (next ∷ bytes)

-- each newline is the pair of a backslash and an n
abbrev pub newlines_shown : List ℕ → List ℕ
newlines_shown [] = []
newlines_shown (byte ∷ bytes) =
    if byte == newline then backslash ∷ letter_n ∷ newlines_shown bytes else byte ∷ newlines_shown bytes
