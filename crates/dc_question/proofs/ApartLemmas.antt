-- Plans that share no layer, and writes that are on different items.
use Rattle.std.proofs.Common.{◌≡◌, Bool, true, false, not, List, [], ◌∷◌, refl, arith, eq-eqb}
use Rattle.std.specs.Prelude.{◌&&◌, ◌||◌, nat_eq}
use Rattle.std.specs.List.{All, AllPairs, list_all, list_any}
use Rattle.std.proofs.lemmas.List.Elements.{All-nil, All-cons, All-contains}
use Rattle.std.proofs.lemmas.List.Kept.{AllPairs-cons}
use Rattle.dc_conf.specs.Trees.{Tree}
use Rattle.dc_conf.specs.Plans.{are_disjoint, all_places}
use Rattle.dc_store.specs.Batches.{Write, AreApart, AreDistinct, AllDistinct}

all_pass : {X : Type 0} (p : X → Bool) (xs : List X) → list_all p xs ≡ true → All (λ x. p x ≡ true) xs
all_pass p [] e = All-nil (λ x. p x ≡ true)
all_pass p (x ∷ xs) e = elim (p x) as (λ b. p x ≡ b → (b && list_all p xs) ≡ true → All (λ x. p x ≡ true) (x ∷ xs)) [
  | true ↦ λ is rest. All-cons (λ x. p x ≡ true) x xs is (all_pass p xs rest)
  | false ↦ λ is rest. absurd (cc)
] refl e

none_pass : {X : Type 0} (p : X → Bool) (xs : List X) → not (list_any p xs) ≡ true → All (λ x. p x ≡ false) xs
none_pass p [] e = All-nil (λ x. p x ≡ false)
none_pass p (x ∷ xs) e = elim (p x) as (λ b. p x ≡ b → not (b || list_any p xs) ≡ true → All (λ x. p x ≡ false) (x ∷ xs)) [
  | true ↦ λ is rest. absurd (cc)
  | false ↦ λ is rest. All-cons (λ x. p x ≡ false) x xs is (none_pass p xs rest)
] refl e

-- disjoint plans are apart
pub apart : (p q : Tree) → are_disjoint p q ≡ true → AreApart p q
apart p q h place in_p in_q =
    let clear : not (list_any (nat_eq place) (all_places q)) ≡ true
    = All-contains (λ x. not (list_any (nat_eq x) (all_places q)) ≡ true) (all_places p) place (all_pass (λ x. not (list_any (nat_eq x) (all_places q))) (all_places p) h) in_p in
    let other : nat_eq place place ≡ false = All-contains (λ y. nat_eq place y ≡ false) (all_places q) place (none_pass (nat_eq place) (all_places q) clear) in_q in
    let same : nat_eq place place ≡ true = eq-eqb place place refl in
    cc

pub apart_too : (p q : Tree) → are_disjoint p q ≡ true → AreApart q p
apart_too p q h place in_q in_p = apart p q h place in_p in_q

pub no_pairs : {X : Type 0} (R : X → X → Type 0) → AllPairs R []
no_pairs R i j d before within = absurd (omega (arith, within))

pub two_distinct : (v w : Write) → AreDistinct v w → AllDistinct (v ∷ w ∷ [])
two_distinct v w h = AllPairs-cons AreDistinct v (w ∷ []) (All-cons (AreDistinct v) w [] h (All-nil (AreDistinct v))) (AllPairs-cons AreDistinct w [] (All-nil (AreDistinct w)) (no_pairs AreDistinct))
