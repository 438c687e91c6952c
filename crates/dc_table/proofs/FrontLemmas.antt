-- The order of texts with equal fronts.
use Rattle.std.proofs.Common.{◌≡◌, ℕ, zero, suc, List, [], ◌∷◌, length, take, drop, refl, ap, ◌∙◌, arith}
use Rattle.std.specs.Cmp.{nat_cmp_is}
use Rattle.std.specs.Int.{from_be_bytes, w64}
use Rattle.std.specs.Ordering.{ordering_then}
use Rattle.std.specs.Slice.Scan.{big_endian}
use Rattle.std.specs.declared.cmp.Ordering.TheVariants.{Equal}
use Rattle.dc_text.specs.Maps.{text_cmp}

-- equal fronts don't matter
pub equal_fronts : (n : ℕ) (one other : List ℕ) → take n one ≡ take n other → text_cmp (drop n one) (drop n other) ≡ text_cmp one other
equal_fronts zero one other same = refl
equal_fronts (suc n) [] [] same = refl
equal_fronts (suc n) [] (y ∷ ys) same = absurd (cc)
equal_fronts (suc n) (x ∷ xs) [] same = absurd (cc)
equal_fronts (suc n) (x ∷ xs) (y ∷ ys) same =
    let first : x ≡ y = cc in
    let others : take n xs ≡ take n ys = cc in
    equal_fronts n xs ys others ∙ ap (λ o. ordering_then o (text_cmp xs ys)) (nat_cmp_is x y Equal first)

-- ---- fronts as numbers

-- eight bytes as one number
pub eight_spell : (bs : List ℕ) → length bs ≡ 8 → from_be_bytes w64 bs ≡ big_endian 0 bs
eight_spell (a ∷ b ∷ c ∷ d ∷ e ∷ f ∷ g ∷ h ∷ []) same = omega arith
eight_spell _ same = absurd (omega (arith, same))
