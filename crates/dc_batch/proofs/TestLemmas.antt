-- Tests and their parts.
use Rattle.std.proofs.Common.{◌≡◌, ◌≢◌, ℕ, Bool, true, false, not, ◌&&◌, List, [], ◌∷◌, ◌++◌, refl, sym, ap, ◌∙◌, inl, inr}
use Rattle.std.specs.Prelude.{◌||◌, ◌⊎◌}
use Rattle.std.specs.List.{list_any, list_all, AllByRecursion}
use Rattle.std.specs.Str.{bytes_eq}
use Rattle.std.proofs.lemmas.Slice.Eq.{bytes_eq-Decides}
use Rattle.dc_text.specs.Maps.{AreDistinct}

pub both : (a b : Bool) → (a && b) ≡ true → (a ≡ true) × (b ≡ true)
both true b e = (refl, e)
both false b e = absurd (cc)

pub both_hold : (a b : Bool) → a ≡ true → b ≡ true → (a && b) ≡ true
both_hold true b p q = q
both_hold false b p q = absurd (cc)

pub neither : (a b : Bool) → (a || b) ≡ false → (a ≡ false) × (b ≡ false)
neither true b e = absurd (cc)
neither false b e = (refl, e)

pub either : (a b : Bool) → (a || b) ≡ true → (a ≡ true) ⊎ (b ≡ true)
either true b e = inl refl
either false b e = inr e

pub not_true : (a : Bool) → not a ≡ true → a ≡ false
not_true true e = absurd (cc)
not_true false e = refl

pub not_false : (a : Bool) → not a ≡ false → a ≡ true
not_false true e = refl
not_false false e = absurd (cc)

pub not-not : (a : Bool) → not (not a) ≡ a
not-not true = refl
not-not false = refl

pub and-false : (a : Bool) → (a && false) ≡ false
and-false true = refl
and-false false = refl

pub or-true : (a : Bool) → (a || true) ≡ true
or-true true = refl
or-true false = refl

pub or-false : (a : Bool) → (a || false) ≡ a
or-false true = refl
or-false false = refl

pub list_any-append : {X : Type 0} (p : X → Bool) (xs ys : List X) → list_any p (xs ++ ys) ≡ (list_any p xs || list_any p ys)
list_any-append p [] ys = refl
list_any-append p (x ∷ xs) ys = elim (p x) as (λ t. (t || list_any p (xs ++ ys)) ≡ ((t || list_any p xs) || list_any p ys)) [ true ↦ refl | false ↦ list_any-append p xs ys ]

pub list_all-append : {X : Type 0} (p : X → Bool) (xs ys : List X) → list_all p (xs ++ ys) ≡ (list_all p xs && list_all p ys)
list_all-append p [] ys = refl
list_all-append p (x ∷ xs) ys = elim (p x) as (λ t. (t && list_all p (xs ++ ys)) ≡ ((t && list_all p xs) && list_all p ys)) [ true ↦ list_all-append p xs ys | false ↦ refl ]

pub all-append : {X : Type 0} (P : X → Type 0) (xs ys : List X) → AllByRecursion P xs → AllByRecursion P ys → AllByRecursion P (xs ++ ys)
all-append P [] ys a b = b
all-append P (x ∷ xs) ys a b = (a.0, all-append P xs ys a.1 b)

pub same_bytes : (text : List ℕ) → bytes_eq text text ≡ true
same_bytes text = (bytes_eq-Decides text text).1 refl

-- one text more, which none of them is
pub distinct-push : (texts : List (List ℕ)) (text : List ℕ) → AreDistinct texts → list_any (bytes_eq text) texts ≡ false → AreDistinct (texts ++ text ∷ [])
distinct-push [] text d n = (tt, tt)
distinct-push (x ∷ texts) text d n =
    let f : (bytes_eq text x ≡ false) × (list_any (bytes_eq text) texts ≡ false) = neither _ _ n in
    (all-append (λ y. y ≢ x) texts (text ∷ []) d.0 (λ same. differ text x f.0 same, tt), distinct-push texts text d.1 f.1) where
      differ : (a b : List ℕ) → bytes_eq a b ≡ false → a ≡ b → ⊥
      differ a b e same = let off : true ≡ false = sym (same_bytes a) ∙ ap (bytes_eq a) same ∙ e in cc
