-- Texts without whitespace at their ends.
use Rattle.std.proofs.Common.{◌≡◌, ℕ, zero, suc, Bool, true, false, cond, ◌&&◌, List, [], ◌∷◌, ◌++◌, drop, refl, sym, ap, ◌∙◌}
use Rattle.std.specs.Prelude.{◌||◌}
use Rattle.std.specs.List.{list_any, list_all}
use Rattle.dc_text.specs.Bytes.{is_space, is_blank, drop_front, drop_back, trimmed}
use Rattle.dc_batch.proofs.TestLemmas.{neither, and-false, list_all-append}

-- a text that isn't blank keeps what stands before it
pub drop_back-append : (xs ys : List ℕ) → is_blank ys ≡ false → drop_back is_space (xs ++ ys) ≡ xs ++ drop_back is_space ys
drop_back-append [] ys h = refl
drop_back-append (x ∷ xs) ys h =
    ap (λ t. cond (is_space x && t) [] (x ∷ drop_back is_space (xs ++ ys))) (list_all-append is_space xs ys ∙ ap (λ t. list_all is_space xs && t) h ∙ and-false (list_all is_space xs))
    ∙ ap (λ t. cond t [] (x ∷ drop_back is_space (xs ++ ys))) (and-false (is_space x))
    ∙ ap (λ (zs : List ℕ). x ∷ zs) (drop_back-append xs ys h)

-- what is left is blank where all was
pub blank-drop_back : (xs : List ℕ) → is_blank (drop_back is_space xs) ≡ is_blank xs
blank-drop_back [] = refl
blank-drop_back (x ∷ xs) = elim (is_space x && is_blank xs) as (λ t. (is_space x && is_blank xs) ≡ t → is_blank (cond t [] (x ∷ drop_back is_space xs)) ≡ t) [
  | true ↦ λ e. refl
  | false ↦ λ e. ap (λ t. is_space x && t) (blank-drop_back xs) ∙ e
] refl

-- a text that isn't blank keeps its first byte
pub drop_back-first : (x : ℕ) (xs : List ℕ) → is_blank (x ∷ xs) ≡ false → drop_back is_space (x ∷ xs) ≡ x ∷ drop_back is_space xs
drop_back-first x xs h = ap (λ t. cond t [] (x ∷ drop_back is_space xs)) h

pub drop_back-twice : (xs : List ℕ) → drop_back is_space (drop_back is_space xs) ≡ drop_back is_space xs
drop_back-twice [] = refl
drop_back-twice (x ∷ xs) = elim (is_space x && is_blank xs) as (λ t. (is_space x && is_blank xs) ≡ t → drop_back is_space (cond t [] (x ∷ drop_back is_space xs)) ≡ cond t [] (x ∷ drop_back is_space xs)) [
  | true ↦ λ e. refl
  | false ↦ λ e. ap (λ t. cond t [] (x ∷ drop_back is_space (drop_back is_space xs))) (ap (λ t. is_space x && t) (blank-drop_back xs) ∙ e) ∙ ap (λ (zs : List ℕ). x ∷ zs) (drop_back-twice xs)
] refl

front_solid : (xs : List ℕ) → drop_front is_space (drop_back is_space (drop_front is_space xs)) ≡ drop_back is_space (drop_front is_space xs)
front_solid [] = refl
front_solid (x ∷ xs) = elim (is_space x) as (λ t. is_space x ≡ t → drop_front is_space (drop_back is_space (cond t (drop_front is_space xs) (x ∷ xs))) ≡ drop_back is_space (cond t (drop_front is_space xs) (x ∷ xs))) [
  | true ↦ λ e. front_solid xs
  | false ↦ λ e.
      let keeps : drop_back is_space (x ∷ xs) ≡ x ∷ drop_back is_space xs = drop_back-first x xs (ap (λ t. t && is_blank xs) e) in
      ap (drop_front is_space) keeps ∙ ap (λ t. cond t (drop_front is_space (drop_back is_space xs)) (x ∷ drop_back is_space xs)) e ∙ sym keeps
] refl

pub trimmed-twice : (xs : List ℕ) → trimmed (trimmed xs) ≡ trimmed xs
trimmed-twice xs = ap (drop_back is_space) (front_solid xs) ∙ drop_back-twice (drop_front is_space xs)

-- ---- bytes that a text doesn't have

pub any-drop_front : (q : ℕ → Bool) (xs : List ℕ) → list_any q xs ≡ false → list_any q (drop_front is_space xs) ≡ false
any-drop_front q [] h = refl
any-drop_front q (x ∷ xs) h = elim (is_space x) as (λ t. list_any q (cond t (drop_front is_space xs) (x ∷ xs)) ≡ false) [
  | true ↦ any-drop_front q xs (neither (q x) (list_any q xs) h).1
  | false ↦ h
]

pub any-drop_back : (q : ℕ → Bool) (xs : List ℕ) → list_any q xs ≡ false → list_any q (drop_back is_space xs) ≡ false
any-drop_back q [] h = refl
any-drop_back q (x ∷ xs) h =
    let f : (q x ≡ false) × (list_any q xs ≡ false) = neither (q x) (list_any q xs) h in
    elim (is_space x && is_blank xs) as (λ t. list_any q (cond t [] (x ∷ drop_back is_space xs)) ≡ false) [
      | true ↦ refl
      | false ↦ ap (λ t. t || list_any q (drop_back is_space xs)) f.0 ∙ any-drop_back q xs f.1
    ]

pub any-drop : (q : ℕ → Bool) (n : ℕ) (xs : List ℕ) → list_any q xs ≡ false → list_any q (drop n xs) ≡ false
any-drop q zero xs h = h
any-drop q (suc n) [] h = refl
any-drop q (suc n) (x ∷ xs) h = any-drop q n xs (neither (q x) (list_any q xs) h).1
