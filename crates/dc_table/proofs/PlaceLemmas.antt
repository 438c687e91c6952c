-- Places, each once, and the mark that each of them has.
use Rattle.std.proofs.Common.{◌≡◌, ℕ, Bool, true, false, not, ◌&&◌, ◌||◌, List, [], ◌∷◌, ◌++◌, get_or, nat_eq, refl, sym, ap, ◌∙◌, subst}
use Rattle.std.specs.List.{list_any, AllByRecursion, IsDistinct}
use Rattle.std.proofs.lemmas.Bool.Decides.{Decides-eqb}
use Rattle.std.proofs.lemmas.List.Folds.{list_any-append}
use Rattle.dc_table.specs.Places.{AreMarked}

-- ---- numbers that differ

pub same_place : (a b : ℕ) → nat_eq a b ≡ true → a ≡ b
same_place a b e = (Decides-eqb a b).0 e

pub turned : (a b : ℕ) → nat_eq a b ≡ nat_eq b a
turned a b = elim (nat_eq a b) as (λ t. nat_eq a b ≡ t → t ≡ nat_eq b a) [
  | true ↦ λ e. sym ((Decides-eqb b a).1 (sym (same_place a b e)))
  | false ↦ λ e. elim (nat_eq b a) as (λ t. nat_eq b a ≡ t → false ≡ t) [
    | true ↦ λ f. absurd (let clash : false ≡ true = sym e ∙ (Decides-eqb a b).1 (sym (same_place b a f)) in cc)
    | false ↦ λ f. refl
  ] refl
] refl

-- ---- lists of which no two are the same

module _ {X : Type 0} (same : X → X → Bool) where
  neither : (a b : Bool) → (a || b) ≡ false → (a ≡ false) × (b ≡ false)
  neither true b e = absurd (cc)
  neither false b e = (refl, e)

  all_apart : (turn : (a b : X) → same a b ≡ same b a) (x y : X) (ys : List X) → AllByRecursion (λ z. same y z ≡ false) ys → same x y ≡ false → AllByRecursion (λ z. same y z ≡ false) (ys ++ x ∷ [])
  all_apart turn x y [] apart other = (turn y x ∙ other, tt)
  all_apart turn x y (z ∷ zs) apart other = (apart.0, all_apart turn x y zs apart.1 other)

  pub distinct_more : (turn : (a b : X) → same a b ≡ same b a) (xs : List X) (x : X) → IsDistinct same xs → list_any (same x) xs ≡ false → IsDistinct same (xs ++ x ∷ [])
  unfolding IsDistinct
  distinct_more turn [] x apart new = (tt, tt)
  distinct_more turn (y ∷ ys) x apart new =
      let off : (same x y ≡ false) × (list_any (same x) ys ≡ false) = neither (same x y) (list_any (same x) ys) new in
      (all_apart turn x y ys apart.0 off.0, distinct_more turn ys x apart.1 off.1)

  all_less : (y x : X) (ys : List X) → AllByRecursion (λ z. same y z ≡ false) (ys ++ x ∷ []) → AllByRecursion (λ z. same y z ≡ false) ys × (same y x ≡ false)
  all_less y x [] apart = (tt, apart.0)
  all_less y x (z ∷ zs) apart = let rest : AllByRecursion (λ z. same y z ≡ false) zs × (same y x ≡ false) = all_less y x zs apart.1 in ((apart.0, rest.0), rest.1)

  -- without the last the others differ still, and the last is none of them
  pub distinct_less : (turn : (a b : X) → same a b ≡ same b a) (xs : List X) (x : X) → IsDistinct same (xs ++ x ∷ []) → IsDistinct same xs × (list_any (same x) xs ≡ false)
  unfolding IsDistinct
  distinct_less turn [] x apart = (tt, refl)
  distinct_less turn (y ∷ ys) x apart =
      let here : AllByRecursion (λ z. same y z ≡ false) ys × (same y x ≡ false) = all_less y x ys apart.0 in
      let rest : IsDistinct same ys × (list_any (same x) ys ≡ false) = distinct_less turn ys x apart.1 in
      ((here.0, rest.0), (λ i. (turn x y ∙ here.1) i || rest.1 i))

-- ---- places and their marks

pub same_marks : (order : List ℕ) (marks more : List Bool) → AreMarked order marks → ((p : ℕ) → get_or more p false ≡ get_or marks p false) → AreMarked order more
same_marks order marks more kept same = record { mark = λ p. same p ∙ kept.mark p; distinct = kept.distinct }

swapped : (a b : Bool) → (a || b) ≡ (b || (a || false))
swapped true true = refl
swapped true false = refl
swapped false true = refl
swapped false false = refl

pub marks_put : (order next : List ℕ) (marks more : List Bool) (place : ℕ) → AreMarked order marks → next ≡ order ++ place ∷ [] → list_any (nat_eq place) order ≡ false
    → ((p : ℕ) → get_or more p false ≡ (nat_eq p place || get_or marks p false)) → AreMarked next more
marks_put order next marks more place kept is new marked =
    subst (λ l. AreMarked l more) (sym is) (record {
      mark = λ p. marked p ∙ ap (λ b. nat_eq p place || b) (kept.mark p) ∙ swapped (nat_eq p place) (list_any (nat_eq p) order) ∙ sym (list_any-append (nat_eq p) order (place ∷ []));
      distinct = distinct_more nat_eq turned order place kept.distinct new;
    })

pub marks_less : (order rest : List ℕ) (marks less : List Bool) (place : ℕ) → AreMarked order marks → order ≡ rest ++ place ∷ [] → ((p : ℕ) → get_or less p false ≡ (not (nat_eq p place) && get_or marks p false)) → AreMarked rest less
marks_less order rest marks less place kept is cleared =
    let apart : IsDistinct nat_eq rest × (list_any (nat_eq place) rest ≡ false) = distinct_less nat_eq turned rest place (subst (IsDistinct nat_eq) is kept.distinct) in
    record {
      mark = λ p. cleared p ∙ ap (λ b. not (nat_eq p place) && b) (kept.mark p ∙ ap (list_any (nat_eq p)) is ∙ list_any-append (nat_eq p) rest (place ∷ [])) ∙ left p apart.1;
      distinct = apart.0;
    } where
      left : (p : ℕ) → list_any (nat_eq place) rest ≡ false → (not (nat_eq p place) && (list_any (nat_eq p) rest || (nat_eq p place || false))) ≡ list_any (nat_eq p) rest
      left p none = elim (nat_eq p place) as (λ b. nat_eq p place ≡ b → (not b && (list_any (nat_eq p) rest || (b || false))) ≡ list_any (nat_eq p) rest) [
        | true ↦ λ e. sym (ap (λ n. list_any (nat_eq n) rest) (same_place p place e) ∙ none)
        | false ↦ λ e. or_false (list_any (nat_eq p) rest)
      ] refl where
        or_false : (b : Bool) → (b || false) ≡ b
        or_false true = refl
        or_false false = refl

none_twice : IsDistinct nat_eq []
unfolding IsDistinct
none_twice = tt

-- where no place has a mark
pub none_marked : (order : List ℕ) (marks : List Bool) → order ≡ [] → marks ≡ [] → AreMarked order marks
none_marked order marks no_place no_mark = subst (λ l. AreMarked l marks) (sym no_place) (subst (AreMarked []) (sym no_mark) (record { mark = λ p. refl; distinct = none_twice }))
