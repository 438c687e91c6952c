-- The text of a field in which references to variables are replaced.
use Rattle.std.specs.Prelude.{ℕ, Bool, true, false, not, ◌&&◌, ◌==◌, List, [], ◌∷◌, ◌++◌, unwrap_or, if◌then◌else◌}
use Rattle.std.specs.List.{list_any, before_first}
use Rattle.std.specs.FinMap as map
use Rattle.dc_text.specs.Ascii.{dollar_sign, backslash, opening_brace, closing_brace}
use Rattle.dc_text.specs.Maps.{Texts}

-- begins with `${`
abbrev pub opens : List ℕ → Bool
opens [] = false
opens (byte ∷ []) = false
opens (byte ∷ next ∷ bytes) = byte == dollar_sign && next == opening_brace

-- has a `}`
abbrev pub closes : List ℕ → Bool
closes bytes = list_any (λ byte. byte == closing_brace) bytes

-- what stands before the first `}`
abbrev pub up_to_brace : List ℕ → List ℕ
up_to_brace bytes = before_first (λ byte. byte == closing_brace) bytes

-- without the two bytes `${`
abbrev pub behind_opening : List ℕ → List ℕ
behind_opening [] = []
behind_opening (byte ∷ []) = []
behind_opening (byte ∷ next ∷ bytes) = bytes

-- the value of a variable, or nothing where it is unset
abbrev pub variable_or_nothing : Texts (List ℕ) → List ℕ → List ℕ
variable_or_nothing variables key = unwrap_or (map.get variables key) []

-- From left to right: `${K}` gives the variable K, and `\${K}` gives `${K}`, where K reaches to the next `}`. Any other
-- byte stays. Where `inside` is true the bytes of a reference that was replaced are passed over, up to its `}`.
abbrev pub expanded_from : Texts (List ℕ) → Bool → List ℕ → List ℕ
expanded_from variables inside [] = []
expanded_from variables true (byte ∷ bytes) = expanded_from variables (not (byte == closing_brace)) bytes
expanded_from variables false (byte ∷ bytes) =
    if opens (byte ∷ bytes) && closes bytes
    then variable_or_nothing variables (up_to_brace (behind_opening (byte ∷ bytes))) ++ expanded_from variables true bytes
    else if byte == backslash && (opens bytes && closes bytes)
    then up_to_brace bytes ++ closing_brace ∷ expanded_from variables true bytes
    else byte ∷ expanded_from variables false bytes

abbrev pub expanded : Texts (List ℕ) → List ℕ → List ℕ
expanded variables text = expanded_from variables false text
