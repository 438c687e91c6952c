-- Usual keys rise with their numbers.
use Rattle.std.proofs.Common.{◌≡◌, ℕ, zero, suc, ◌<◌, Bool, true, List, [], ◌∷◌, length, get_or, Some, sym, ap, ◌∙◌, arith}
use Rattle.std.specs.Prelude.{T, ◌&&◌}
use Rattle.std.specs.declared.cmp.Ordering.{Ordering}
use Rattle.std.specs.declared.cmp.Ordering.TheVariants.{Less, Equal, Greater}
use Rattle.std.specs.Ordering.{is_lt, nat_cmp, MatchOrdering}
use Rattle.std.specs.Cmp.{ranks, tied_itself}
use Rattle.std.specs.Cmp.Lexicographic.{nat_list_cmp_total}
use Rattle.dc_text.specs.Maps.{text_cmp}
use Rattle.dc_parts.specs.Packed.{usual_keys, usual_key, number_of}
use Rattle.dc_parts.proofs.PackedLemmas.{usual_of}
use Rattle.dc_parts.proofs.PlaceLemmas.{first, second, less, above}

abbrev lower : List ℕ → List (List ℕ) → Bool
lower k [] = true
lower k (l ∷ ls) = is_lt (text_cmp k l) && lower k ls

abbrev rising : List (List ℕ) → Bool
rising [] = true
rising (k ∷ ks) = lower k ks && rising ks

lower_at : (k : List ℕ) (ks : List (List ℕ)) (i : ℕ) → T (lower k ks) → i < length ks → text_cmp k (get_or ks i []) ≡ Less
lower_at k [] i h lt = absurd (omega arith)
lower_at k (l ∷ ks) zero h lt = less _ (first _ _ h)
lower_at k (l ∷ ks) (suc i) h lt = lower_at k ks i (second _ _ h) (omega arith)

rising_at : (ks : List (List ℕ)) (i j : ℕ) → T (rising ks) → i < j → j < length ks → text_cmp (get_or ks i []) (get_or ks j []) ≡ Less
rising_at [] i j h lt in_range = absurd (omega arith)
rising_at (k ∷ ks) i zero h lt in_range = absurd (omega arith)
rising_at (k ∷ ks) zero (suc j) h lt in_range = lower_at k ks j (first _ _ h) (omega arith)
rising_at (k ∷ ks) (suc i) (suc j) h lt in_range = rising_at ks i j (second _ _ h) (omega arith) (omega arith)

usual_rising : T (rising usual_keys)
usual_rising = tt

by_number : (m n : ℕ) (o : Ordering) → m < 8 → n < 8 → MatchOrdering o (m < n) (m ≡ n) (n < m) → text_cmp (usual_key m) (usual_key n) ≡ o
by_number m n Less m_few n_few lt = rising_at usual_keys m n usual_rising lt n_few
by_number m n Equal m_few n_few same = ap (λ k. text_cmp (usual_key m) (usual_key k)) (sym same) ∙ tied_itself nat_list_cmp_total (usual_key m)
by_number m n Greater m_few n_few gt = above (usual_key n) (usual_key m) (rising_at usual_keys n m usual_rising gt m_few)

-- the order of two usual keys is that of their numbers
pub order_by_number : (m n : ℕ) (q : List ℕ) (r : Ordering) → r ≡ nat_cmp m n → number_of q ≡ Some m → n < 8 → r ≡ text_cmp q (usual_key n)
order_by_number m n q r is e few =
    let own : (usual_key m ≡ q) × (m < 8) = usual_of q m e in
    is ∙ sym (by_number m n (nat_cmp m n) own.1 few (ranks m n)) ∙ ap (λ k. text_cmp k (usual_key n)) own.0
