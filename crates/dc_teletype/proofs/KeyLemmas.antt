-- The numbers of choices.
use Rattle.std.proofs.Common.{◌≡◌, ℕ, ◌+◌, ◌-◌, ◌<◌, suc, List, [], ◌∷◌, ◌++◌, refl, sym, ap, ◌∙◌, append_assoc, arith}
use Rattle.std.specs.Prelude.{decimal}
use Rattle.dc_teletype.specs.Keys.{numerals, numerals_from}

-- the next number is the first of those that are left
next_numeral : (last count : ℕ) → last < count → numerals_from (last + 1) (count - last) ≡ decimal (last + 1) ∷ numerals_from (last + 1 + 1) (count - (last + 1))
next_numeral last count below =
    let more : count - last ≡ suc (count - (last + 1)) = omega arith in
    let next : suc (last + 1) ≡ last + 1 + 1 = omega arith in
    rw (more, ← next) refl

-- one number more, and one less that is left
pub numeral_more : (found : List (List ℕ)) (last count : ℕ) → last < count → found ++ numerals_from (last + 1) (count - last) ≡ numerals count
    → (found ++ decimal (last + 1) ∷ []) ++ numerals_from (last + 1 + 1) (count - (last + 1)) ≡ numerals count
numeral_more found last count below so_far =
    append_assoc found (decimal (last + 1) ∷ []) _
    ∙ ap (λ (left : List (List ℕ)). found ++ left) (sym (next_numeral last count below))
    ∙ so_far
