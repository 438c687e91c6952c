-- Tests and their parts.
use Rattle.std.proofs.Common.{◌≡◌, ℕ, suc, ◌+◌, Bool, true, false, cond, not, ◌&&◌, List, [], ◌∷◌, ◌++◌, take, drop, Some, None, refl, sym, ap, ◌∙◌, arith}
use Rattle.std.specs.Prelude.{◌||◌, ◌==◌, position}
use Rattle.std.specs.List.{list_any, list_all, find, before_first, after_first, position_or_len}
use Rattle.std.specs.Str.{bytes_eq}
use Rattle.std.specs.Cmp.Lexicographic.{same_text}
use Rattle.std.proofs.lemmas.List.{take_all}
use Rattle.std.proofs.lemmas.Bool.{ltb-false}
use Rattle.std.proofs.lemmas.Bool.Decides.{nat_tests}
use Rattle.dc_text.proofs.LineLemmas.{cond_is_some, cond_is_none}

pub both : (a b : Bool) → (a && b) ≡ true → (a ≡ true) × (b ≡ true)
both true b e = (refl, e)
both false b e = absurd (cc)

pub both_hold : (a b : Bool) → a ≡ true → b ≡ true → (a && b) ≡ true
both_hold true b p q = q
both_hold false b p q = absurd (cc)

pub neither : (a b : Bool) → (a || b) ≡ false → (a ≡ false) × (b ≡ false)
neither true b e = absurd (cc)
neither false b e = (refl, e)

pub not_true : (a : Bool) → not a ≡ true → a ≡ false
not_true true e = absurd (cc)
not_true false e = refl

pub not_false : (a : Bool) → not a ≡ false → a ≡ true
not_false true e = refl
not_false false e = absurd (cc)

pub and-false : (a : Bool) → (a && false) ≡ false
and-false true = refl
and-false false = refl

pub and-true : (a : Bool) → (a && true) ≡ a
and-true true = refl
and-true false = refl

pub or-true : (a : Bool) → (a || true) ≡ true
or-true true = refl
or-true false = refl

pub or-false : (a : Bool) → (a || false) ≡ a
or-false true = refl
or-false false = refl

-- a test by which two lists differ
pub bytes_eq-other : (p : ℕ → Bool) (xs ys : List ℕ) → list_any p xs ≡ true → list_any p ys ≡ false → bytes_eq xs ys ≡ false
bytes_eq-other p xs ys has none = elim (bytes_eq xs ys) as (λ t. bytes_eq xs ys ≡ t → t ≡ false) [
  | true ↦ λ e. (let same : xs ≡ ys = same_text xs ys (sym e) in let off : true ≡ false = sym has ∙ ap (list_any p) same ∙ none in absurd (cc))
  | false ↦ λ e. refl
] refl

pub list_any-append : {X : Type 0} (p : X → Bool) (xs ys : List X) → list_any p (xs ++ ys) ≡ (list_any p xs || list_any p ys)
list_any-append p [] ys = refl
list_any-append p (x ∷ xs) ys = elim (p x) as (λ t. (t || list_any p (xs ++ ys)) ≡ ((t || list_any p xs) || list_any p ys)) [ true ↦ refl | false ↦ list_any-append p xs ys ]

pub list_all-append : {X : Type 0} (p : X → Bool) (xs ys : List X) → list_all p (xs ++ ys) ≡ (list_all p xs && list_all p ys)
list_all-append p [] ys = refl
list_all-append p (x ∷ xs) ys = elim (p x) as (λ t. (t && list_all p (xs ++ ys)) ≡ ((t && list_all p xs) && list_all p ys)) [ true ↦ list_all-append p xs ys | false ↦ refl ]

pub list_all-each : {X : Type 0} (p q : X → Bool) → ((x : X) → p x ≡ true → q x ≡ true) → (xs : List X) → list_all p xs ≡ true → list_all q xs ≡ true
list_all-each p q h [] e = refl
list_all-each p q h (x ∷ xs) e = let f : (p x ≡ true) × (list_all p xs ≡ true) = both _ _ e in both_hold _ _ (h x f.0) (list_all-each p q h xs f.1)

-- the place of the first element that passes parts the list
pub before_place : (p : ℕ → Bool) (xs : List ℕ) (at : ℕ) → position p xs ≡ Some at → take at xs ≡ before_first p xs
before_place p xs at e = ap (λ n. take n xs) (sym (cond_is_some _ _ _ e).1)

pub before_none : (p : ℕ → Bool) (xs : List ℕ) → position p xs ≡ None → xs ≡ before_first p xs
before_none p xs e = sym (take_all (position_or_len p xs) xs (ltb-false _ _ (cond_is_none _ _ e)))

-- what is found passes
pub find_passes : {X : Type 0} (p : X → Bool) (xs : List X) (x : X) → find p xs ≡ Some x → p x ≡ true
find_passes p [] x e = absurd (cc)
find_passes p (y ∷ xs) x e = elim (p y) as (λ t. p y ≡ t → cond t (Some y) (find p xs) ≡ Some x → p x ≡ true) [
  | true ↦ λ is f. let same : y ≡ x = cc in ap p (sym same) ∙ is
  | false ↦ λ is f. find_passes p xs x f
] refl e

-- a list is what stands before the first such number, that number, and what stands after it
pub apart_at : (y : ℕ) (xs : List ℕ) → list_any (λ b. b == y) xs ≡ true
    → (xs ≡ before_first (λ b. b == y) xs ++ y ∷ after_first (λ b. b == y) xs) × (list_any (λ b. b == y) (before_first (λ b. b == y) xs) ≡ false)
apart_at y [] e = absurd (cc)
apart_at y (x ∷ xs) e =
    let p : ℕ → Bool = λ b. b == y in
    elim (x == y) as (λ t. (x == y) ≡ t → (t || list_any p xs) ≡ true
    → (x ∷ xs ≡ take (cond (not t) (1 + position_or_len p xs) 0) (x ∷ xs) ++ y ∷ drop (cond (not t) (1 + position_or_len p xs) 0 + 1) (x ∷ xs))
    × (list_any p (take (cond (not t) (1 + position_or_len p xs) 0) (x ∷ xs)) ≡ false)) [
      | true ↦ λ is _. (ap (λ z. z ∷ xs) (same_number x y is), refl)
      | false ↦ λ is f.
          let more = apart_at y xs f in
          let n : ℕ = position_or_len p xs in
          let one : 1 + n ≡ suc n = omega arith in
          let two : 1 + n + 1 ≡ suc (n + 1) = omega arith in (
            ap (λ (zs : List ℕ). x ∷ zs) more.0 ∙ (λ i. take (sym one i) (x ∷ xs) ++ y ∷ drop (sym two i) (x ∷ xs)),
            ap (λ m. list_any p (take m (x ∷ xs))) one ∙ ap (λ t. t || list_any p (take n xs)) is ∙ more.1,
          )
    ] refl e where
      same_number : (a b : ℕ) → (a == b) ≡ true → a ≡ b
      same_number a b h = grind (arith, nat_tests)
