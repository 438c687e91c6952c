-- What stands before and after the first element that passes, from the front on, and after the last.
use Rattle.std.proofs.Common.{◌≡◌, ℕ, suc, ◌+◌, ◌-◌, ◌<◌, Bool, true, false, cond, not, List, [], ◌∷◌, ◌++◌, length, take, drop, reverse, refl, sym, ap, ◌∙◌, arith, inl, inr, eqb}
use Rattle.std.specs.Prelude.{◌||◌}
use Rattle.std.specs.List.{list_any, before_first, after_first, after_last, position_or_len, prefix_len}
use Rattle.std.proofs.lemmas.Bool.{cases_Bool}
use Rattle.std.proofs.lemmas.Bool.Decides.{nat_tests}
use Rattle.std.proofs.lemmas.List.{reverse-append, length-reverse}
use Rattle.std.proofs.lemmas.List.Folds.{prefix_len-append}

pub before_first-here : {X : Type 0} (p : X → Bool) (x : X) (xs : List X) → p x ≡ true → before_first p (x ∷ xs) ≡ []
before_first-here p x xs h = rw h refl

pub before_first-later : {X : Type 0} (p : X → Bool) (x : X) (xs : List X) → p x ≡ false → before_first p (x ∷ xs) ≡ x ∷ before_first p xs
before_first-later p x xs h =
    let e : 1 + position_or_len p xs ≡ suc (position_or_len p xs) = omega arith in
    rw h (ap (λ n. take n (x ∷ xs)) e)

pub before_first-cons : {X : Type 0} (p : X → Bool) (x : X) (xs : List X) → before_first p (x ∷ xs) ≡ cond (p x) [] (x ∷ before_first p xs)
before_first-cons p x xs = elim (cases_Bool (p x)) [
  | inl here ↦ before_first-here p x xs here ∙ ap (λ b. cond b [] (x ∷ before_first p xs)) (sym here)
  | inr later ↦ before_first-later p x xs later ∙ ap (λ b. cond b [] (x ∷ before_first p xs)) (sym later)
]

pub after_first-here : {X : Type 0} (p : X → Bool) (x : X) (xs : List X) → p x ≡ true → after_first p (x ∷ xs) ≡ xs
after_first-here p x xs h = rw h refl

pub after_first-later : {X : Type 0} (p : X → Bool) (x : X) (xs : List X) → p x ≡ false → after_first p (x ∷ xs) ≡ after_first p xs
after_first-later p x xs h =
    let e : (1 + position_or_len p xs) + 1 ≡ suc (position_or_len p xs + 1) = omega arith in
    rw h (ap (λ n. drop n (x ∷ xs)) e)

-- ---- the last element that passes

or-turned : (a b c : Bool) → (a || (b || c)) ≡ (b || (a || c))
or-turned true true c = refl
or-turned true false c = refl
or-turned false b c = refl

or-true : (a : Bool) → (a || true) ≡ true
or-true true = refl
or-true false = refl

any-push : {X : Type 0} (p : X → Bool) (xs : List X) (x : X) → list_any p (xs ++ x ∷ []) ≡ (p x || list_any p xs)
any-push p [] x = refl
any-push p (y ∷ xs) x = ap (λ b. p y || b) (any-push p xs x) ∙ or-turned (p y) (p x) (list_any p xs)

any-reverse : {X : Type 0} (p : X → Bool) (xs : List X) → list_any p (reverse xs) ≡ list_any p xs
any-reverse p [] = refl
any-reverse p (x ∷ xs) = ap (list_any p) (reverse-append (x ∷ []) xs) ∙ any-push p (reverse xs) x ∙ ap (λ b. p x || b) (any-reverse p xs)

-- how many elements behind the last that passes
abbrev tail_len : {X : Type 0} → (X → Bool) → List X → ℕ
tail_len p xs = prefix_len (λ x. not (p x)) xs

not_all : {X : Type 0} (p : X → Bool) (xs : List X) → list_any p xs ≡ true → tail_len p xs < length xs
not_all p [] has = absurd (cc)
not_all p (x ∷ xs) has = elim (cases_Bool (p x)) [
  | inl here ↦ rw here (omega arith)
  | inr later ↦
      let more : tail_len p xs < length xs = not_all p xs (rw later at has) in
      rw later (omega (arith, more))
]

all_of : {X : Type 0} (p : X → Bool) (xs : List X) → list_any p xs ≡ false → tail_len p xs ≡ length xs
all_of p [] none = refl
all_of p (x ∷ xs) none = elim (cases_Bool (p x)) [
  | inl here ↦ absurd (let off : true ≡ false = rw here at none in cc)
  | inr later ↦
      let more : tail_len p xs ≡ length xs = all_of p xs (rw later at none) in
      rw later (omega (arith, more))
]

other : (m n : ℕ) → m < n → eqb m n ≡ false
other m n less = grind (arith, nat_tests)

same : (m n : ℕ) → m ≡ n → eqb m n ≡ true
same m n is = grind (arith, nat_tests)

tail_len-turned : {X : Type 0} (p : X → Bool) (x : X) (xs : List X) → tail_len p (reverse (x ∷ xs)) ≡ cond (list_any p xs) (tail_len p (reverse xs)) (length xs + tail_len p (x ∷ []))
tail_len-turned p x xs =
    let n : ℕ = length (reverse xs) in
    let t : ℕ = tail_len p (reverse xs) in
    ap (tail_len p) (reverse-append (x ∷ []) xs) ∙ prefix_len-append (λ y. not (p y)) (reverse xs) (x ∷ [])
    ∙ elim (cases_Bool (list_any p xs)) as (λ _. cond (eqb t n) (n + tail_len p (x ∷ [])) t ≡ cond (list_any p xs) t (length xs + tail_len p (x ∷ []))) [
      | inl has ↦ rw (other t n (not_all p (reverse xs) (any-reverse p xs ∙ has)), has) refl
      | inr none ↦ rw (same t n (all_of p (reverse xs) (any-reverse p xs ∙ none)), none) (ap (λ k. k + tail_len p (x ∷ [])) (length-reverse xs))
    ]

pub after_last-cons : {X : Type 0} (p : X → Bool) (x : X) (xs : List X) → after_last p (x ∷ xs) ≡ cond (list_any p (x ∷ xs)) (after_last p xs) (x ∷ xs)
after_last-cons p x xs =
    ap (λ n. drop (suc (length xs) - n) (x ∷ xs)) (tail_len-turned p x xs)
    ∙ elim (cases_Bool (list_any p xs)) as (λ _. drop (suc (length xs) - cond (list_any p xs) (tail_len p (reverse xs)) (length xs + tail_len p (x ∷ []))) (x ∷ xs)
    ≡ cond (p x || list_any p xs) (after_last p xs) (x ∷ xs)) [
      | inl has ↦
          let short : tail_len p (reverse xs) < length xs = omega (arith, not_all p (reverse xs) (any-reverse p xs ∙ has), length-reverse xs) in
          let one_less : suc (length xs) - tail_len p (reverse xs) ≡ suc (length xs - tail_len p (reverse xs)) = omega arith in
          rw (has, or-true (p x)) (ap (λ n. drop n (x ∷ xs)) one_less)
      | inr none ↦
          let all : tail_len p (reverse xs) ≡ length xs = all_of p (reverse xs) (any-reverse p xs ∙ none) ∙ length-reverse xs in
          rw none (elim (p x) as (λ b. drop (suc (length xs) - (length xs + cond (not b) 1 0)) (x ∷ xs) ≡ cond (b || false) (after_last p xs) (x ∷ xs)) [
            | true ↦ (let one : suc (length xs) - (length xs + 0) ≡ 1 = omega arith in let nothing : length xs - tail_len p (reverse xs) ≡ 0 = omega (arith, all) in
                ap (λ n. drop n (x ∷ xs)) one ∙ sym (ap (λ n. drop n xs) nothing))
            | false ↦ (let nothing : suc (length xs) - (length xs + 1) ≡ 0 = omega arith in ap (λ n. drop n (x ∷ xs)) nothing)
          ])
    ]
