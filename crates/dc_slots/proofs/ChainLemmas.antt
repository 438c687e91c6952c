-- Numbers of which each names the next: how they are walked, and what becomes of them where one is put or taken away.
use Rattle.std.proofs.Common.{◌≡◌, ◌≢◌, ◌⊎◌, ℕ, zero, suc, ◌<◌, ◌≤◌, Bool, true, false, List, [], ◌∷◌, ◌++◌, length, nat_eq, map as each, Option, Some, None, refl, sym, ap, ◌∙◌, subst, inl, inr, arith}
use Rattle.std.specs.Prelude.{◌||◌}
use Rattle.std.specs.List.{list_any, IsDistinct, AllByRecursion}
use Rattle.std.specs.Cmp.{IsEquivalence}
use Rattle.std.proofs.lemmas.Bool.{eqb-true, eq-eqb, cases_eq}
use Rattle.std.proofs.lemmas.List.Folds.{list_any-append}
use Rattle.std.proofs.lemmas.Map.Keys.{IsDistinct-head, IsDistinct-tail, IsDistinct-cons}
use Rattle.std.proofs.lemmas.Map.Steps.{length-le_from_distinct_below}
use Rattle.dc_slots.specs.Chains.{has, walk, IsWalk, EndsAt}

-- ---- numbers that are the same

pub tied : (n : ℕ) → nat_eq n n ≡ true
tied n = eq-eqb n n refl

pub untied : (m n : ℕ) → m ≢ n → nat_eq m n ≡ false
untied m n differ = elim (nat_eq m n) as (λ b. nat_eq m n ≡ b → b ≡ false) [
  | true ↦ λ e. absurd (differ (eqb-true m n e))
  | false ↦ λ e. refl
] refl

pub numbers_equiv : IsEquivalence nat_eq
numbers_equiv = record {
  refl = tied;
  symm = λ m n. elim (cases_eq m n) [
    | inl same ↦ (λ i. nat_eq (same i) n) ∙ (λ i. nat_eq n (sym same i))
    | inr differ ↦ untied m n differ ∙ sym (untied n m (λ same. differ (sym same)))
  ];
  congr = λ l m n same. ap (λ k. nat_eq k n) (eqb-true l m same);
}

-- ---- numbers that are among others

pub either : (a b : Bool) → (a || b) ≡ true → (a ≡ true) ⊎ (b ≡ true)
either true b e = inl refl
either false b e = inr e

pub neither : (a b : Bool) → (a || b) ≡ false → (a ≡ false) × (b ≡ false)
neither true b e = absurd (cc)
neither false b e = (refl, e)

pub or_first : (a b : Bool) → a ≡ true → (a || b) ≡ true
or_first a b e = ap (λ c. c || b) e

pub or_second : (a b : Bool) → b ≡ true → (a || b) ≡ true
or_second true b e = refl
or_second false b e = e

pub not_both : {A : Type 0} (b : Bool) → b ≡ true → b ≡ false → A
not_both b is isnt = absurd (cc)

pub has_head : (n : ℕ) (ns : List ℕ) → has n (n ∷ ns) ≡ true
has_head n ns = or_first (nat_eq n n) (has n ns) (tied n)

pub has_tail : (m n : ℕ) (ns : List ℕ) → has m ns ≡ true → has m (n ∷ ns) ≡ true
has_tail m n ns e = or_second (nat_eq m n) (has m ns) e

pub has_last : (ns : List ℕ) (n : ℕ) → has n (ns ++ n ∷ []) ≡ true
has_last ns n = list_any-append (nat_eq n) ns (n ∷ []) ∙ or_second (has n ns) _ (has_head n [])

-- a number among those with one more is that one or among them
pub has_pushed : (m : ℕ) (ns : List ℕ) (n : ℕ) → has m (ns ++ n ∷ []) ≡ true → (m ≡ n) ⊎ (has m ns ≡ true)
has_pushed m ns n e = elim (either (has m ns) (has m (n ∷ [])) (sym (list_any-append (nat_eq m) ns (n ∷ [])) ∙ e)) [
  | inl there ↦ inr there
  | inr here ↦ elim (either (nat_eq m n) false here) [ inl same ↦ inl (eqb-true m n same) | inr none ↦ absurd (cc) ]
]

pub has_push : (m : ℕ) (ns : List ℕ) (n : ℕ) → has m ns ≡ true → has m (ns ++ n ∷ []) ≡ true
has_push m ns n e = list_any-append (nat_eq m) ns (n ∷ []) ∙ or_first (has m ns) _ e

pub lacks_pushed : (m : ℕ) (ns : List ℕ) (n : ℕ) → has m (ns ++ n ∷ []) ≡ false → (m ≢ n) × (has m ns ≡ false)
lacks_pushed m ns n e =
    let parts : (has m ns ≡ false) × (has m (n ∷ []) ≡ false) = neither _ _ (sym (list_any-append (nat_eq m) ns (n ∷ [])) ∙ e) in
    ((λ same. not_both (nat_eq m n) (eq-eqb m n same) (neither (nat_eq m n) false parts.1).0), parts.0)

pub lacks_push : (m : ℕ) (ns : List ℕ) (n : ℕ) → m ≢ n → has m ns ≡ false → has m (ns ++ n ∷ []) ≡ false
lacks_push m ns n differ e = list_any-append (nat_eq m) ns (n ∷ []) ∙ (λ i. e i || (untied m n differ i || false))

-- a number that is among them differs from one that isn't
pub apart : (m n : ℕ) (ns : List ℕ) → has m ns ≡ true → has n ns ≡ false → m ≢ n
apart m n ns in_it out same = not_both (has m ns) in_it (ap (λ k. has k ns) same ∙ out)

module _ {X : Type 0} (same : X → X → Bool) where
  none_same : (x : X) (xs : List X) → AllByRecursion (λ y. same x y ≡ false) xs → list_any (same x) xs ≡ false
  none_same x [] all = refl
  none_same x (y ∷ ys) all = λ i. all.0 i || none_same x ys all.1 i

  pub first_apart : (x : X) (xs : List X) → IsDistinct same (x ∷ xs) → list_any (same x) xs ≡ false
  first_apart x xs distinct = none_same x xs (IsDistinct-head same x xs distinct)

-- ---- the walk

module _ (next : ℕ → Option ℕ) where
  pub walk_is : (from : Option ℕ) (ns : List ℕ) (most : ℕ) → IsWalk next from ns → length ns ≤ most → walk next most from ≡ ns
  walk_is from [] zero walks short = refl
  walk_is from [] (suc most) walks short = ap (walk next (suc most)) walks
  walk_is from (n ∷ ns) zero walks short = absurd (omega arith)
  walk_is from (n ∷ ns) (suc most) walks short = ap (walk next (suc most)) walks.0 ∙ ap (λ l. n ∷ l) (walk_is (next n) ns most walks.1 (omega arith))

  -- numbers that differ and stand below a bound are walked within it
  pub walk_within : (from : Option ℕ) (ns : List ℕ) (most : ℕ) → IsWalk next from ns → IsDistinct nat_eq ns → ((n : ℕ) → has n ns ≡ true → n < most) → walk next most from ≡ ns
  walk_within from ns most walks distinct below = walk_is from ns most walks (length-le_from_distinct_below ns most distinct below)

  -- only the last names none
  pub last_alone : (from : Option ℕ) (ns : List ℕ) (last n : ℕ) → IsWalk next from ns → EndsAt ns (Some last) → has n ns ≡ true → next n ≡ None → n ≡ last
  last_alone from [] last n walks ends there none = absurd (cc)
  last_alone from (k ∷ []) last n walks ends there none = elim (either (nat_eq n k) false there) [
    | inl same ↦ eqb-true n k same ∙ let e : Some last ≡ Some k = ends in cc
    | inr none_left ↦ absurd (cc)
  ]
  last_alone from (k ∷ m ∷ ns) last n walks ends there none = elim (either (nat_eq n k) (has n (m ∷ ns)) there) [
    | inl same ↦ let named : next k ≡ Some m = walks.1.0 in let e : n ≡ k = eqb-true n k same in absurd (cc)
    | inr later ↦ last_alone (next k) (m ∷ ns) last n walks.1 ends later none
  ]

pub has_end : (ns : List ℕ) (last : ℕ) → EndsAt ns (Some last) → has last ns ≡ true
has_end [] last ends = absurd (cc)
has_end (n ∷ []) last ends = or_first (nat_eq last n) false (eq-eqb last n (let e : Some last ≡ Some n = ends in cc))
has_end (n ∷ m ∷ ns) last ends = has_tail last n (m ∷ ns) (has_end (m ∷ ns) last ends)

none_some : {A : Type 0} (n : ℕ) → None ≡ Some n → A
none_some n e = absurd (cc)

pub no_end : (ns : List ℕ) → EndsAt ns None → ns ≡ []
no_end [] ends = refl
no_end (n ∷ []) ends = none_some n ends
no_end (n ∷ m ∷ ns) ends = absurd (let e : m ∷ ns ≡ [] = no_end (m ∷ ns) ends in cc)

pub ends_pushed : (ns : List ℕ) (n : ℕ) → EndsAt (ns ++ n ∷ []) (Some n)
ends_pushed [] n = refl
ends_pushed (k ∷ []) n = refl
ends_pushed (k ∷ m ∷ ns) n = ends_pushed (m ∷ ns) n

module _ (next later : ℕ → Option ℕ) where
  -- where each of them names the same
  pub walk_same : (from : Option ℕ) (ns : List ℕ) → ((n : ℕ) → has n ns ≡ true → later n ≡ next n) → IsWalk next from ns → IsWalk later from ns
  walk_same from [] same walks = walks
  walk_same from (n ∷ ns) same walks =
      (walks.0, subst (λ f. IsWalk later f ns) (sym (same n (has_head n ns))) (walk_same (next n) ns (λ m there. same m (has_tail m n ns there)) walks.1))

  -- where the last names one more, which names none
  pub walk_pushed : (from : Option ℕ) (ns : List ℕ) (last n : ℕ) → IsWalk next from ns → EndsAt ns (Some last) → IsDistinct nat_eq ns → has n ns ≡ false
      → later last ≡ Some n → later n ≡ None → ((m : ℕ) → m ≢ last → m ≢ n → later m ≡ next m) → IsWalk later from (ns ++ n ∷ [])
  walk_pushed from [] last n walks ends distinct new named none same = absurd (cc)
  walk_pushed from (k ∷ []) last n walks ends distinct new named none same =
      let e : last ≡ k = (let f : Some last ≡ Some k = ends in cc) in
      (walks.0, (ap later (sym e) ∙ named, none))
  walk_pushed from (k ∷ m ∷ ns) last n walks ends distinct new named none same =
      let not_last : k ≢ last = λ e. not_both (has k (m ∷ ns)) (ap (λ j. has j (m ∷ ns)) e ∙ has_end (m ∷ ns) last ends) (first_apart nat_eq k (m ∷ ns) distinct) in
      let off : (nat_eq n k ≡ false) × (has n (m ∷ ns) ≡ false) = neither (nat_eq n k) (has n (m ∷ ns)) new in
      let not_new : k ≢ n = λ e. not_both (nat_eq n k) (eq-eqb n k (sym e)) off.0 in (
        walks.0,
        subst (λ f. IsWalk later f (m ∷ ns ++ n ∷ [])) (sym (same k not_last not_new))
            (walk_pushed (next k) (m ∷ ns) last n walks.1 ends (IsDistinct-tail nat_eq k (m ∷ ns) distinct) off.1 named none same),
      )

-- ---- a number is taken away

pub has_append : (m : ℕ) (front back : List ℕ) → has m (front ++ back) ≡ (has m front || has m back)
has_append m front back = list_any-append (nat_eq m) front back

module _ {X : Type 0} (same : X → X → Bool) where
  all_cut : (x y : X) (front back : List X) → AllByRecursion (λ z. same x z ≡ false) (front ++ y ∷ back) → AllByRecursion (λ z. same x z ≡ false) (front ++ back)
  all_cut x y [] back all = all.1
  all_cut x y (z ∷ front) back all = (all.0, all_cut x y front back all.1)

  pub distinct_cut : (front back : List X) (y : X) → IsDistinct same (front ++ y ∷ back) → IsDistinct same (front ++ back)
  distinct_cut [] back y distinct = IsDistinct-tail same y back distinct
  distinct_cut (x ∷ front) back y distinct =
      IsDistinct-cons same x (front ++ back) (all_cut x y front back (IsDistinct-head same x _ distinct)) (distinct_cut front back y (IsDistinct-tail same x _ distinct))

  pub distinct_back : (front back : List X) → IsDistinct same (front ++ back) → IsDistinct same back
  distinct_back [] back distinct = distinct
  distinct_back (x ∷ front) back distinct = distinct_back front back (IsDistinct-tail same x _ distinct)

  pub not_in_back : (front back : List X) (y : X) → IsDistinct same (front ++ y ∷ back) → list_any (same y) back ≡ false
  not_in_back front back y distinct = first_apart same y back (distinct_back front (y ∷ back) distinct)

pub not_in_front : (front back : List ℕ) (n : ℕ) → IsDistinct nat_eq (front ++ n ∷ back) → has n front ≡ false
not_in_front [] back n distinct = refl
not_in_front (k ∷ front) back n distinct =
    let off : has k (front ++ n ∷ back) ≡ false = first_apart nat_eq k (front ++ n ∷ back) distinct in
    let parts : (has k front ≡ false) × (has k (n ∷ back) ≡ false) = neither _ _ (sym (has_append k front (n ∷ back)) ∙ off) in
    let differ : (nat_eq k n ≡ false) × (has k back ≡ false) = neither _ _ parts.1 in
    (λ i. (numbers_equiv.symm n k ∙ differ.0) i || not_in_front front back n (IsDistinct-tail nat_eq k _ distinct) i)

pub not_in_cut : (front back : List ℕ) (n : ℕ) → IsDistinct nat_eq (front ++ n ∷ back) → has n (front ++ back) ≡ false
not_in_cut front back n distinct = has_append n front back ∙ (λ i. not_in_front front back n distinct i || not_in_back nat_eq front back n distinct i)

-- what is left was there
pub has_cut : (m : ℕ) (front back : List ℕ) (n : ℕ) → has m (front ++ back) ≡ true → has m (front ++ n ∷ back) ≡ true
has_cut m front back n e = elim (either (has m front) (has m back) (sym (has_append m front back) ∙ e)) [
  | inl before ↦ has_append m front (n ∷ back) ∙ or_first (has m front) _ before
  | inr behind ↦ has_append m front (n ∷ back) ∙ or_second (has m front) _ (has_tail m n back behind)
]

-- what was there is left, but for that number
pub has_uncut : (m : ℕ) (front back : List ℕ) (n : ℕ) → m ≢ n → has m (front ++ n ∷ back) ≡ true → has m (front ++ back) ≡ true
has_uncut m front back n differ e = elim (either (has m front) (has m (n ∷ back)) (sym (has_append m front (n ∷ back)) ∙ e)) [
  | inl before ↦ has_append m front back ∙ or_first (has m front) _ before
  | inr behind ↦ has_append m front back ∙ or_second (has m front) _ (elim (either (nat_eq m n) (has m back) behind) [ inl same ↦ absurd (differ (eqb-true m n same)) | inr later ↦ later ])
]

pub has_middle : (front back : List ℕ) (n : ℕ) → has n (front ++ n ∷ back) ≡ true
has_middle front back n = has_append n front (n ∷ back) ∙ or_second (has n front) _ (has_head n back)

module _ (next later : ℕ → Option ℕ) where
  pub walk_cut : (from : Option ℕ) (front : List ℕ) (before n : ℕ) (back : List ℕ) → IsWalk next from (front ++ n ∷ back) → EndsAt front (Some before) → IsDistinct nat_eq (front ++ n ∷ back)
      → later before ≡ next n → ((m : ℕ) → m ≢ before → m ≢ n → later m ≡ next m) → IsWalk later from (front ++ back)
  walk_cut from [] before n back walks ends distinct named same = absurd (cc)
  walk_cut from (k ∷ []) before n back walks ends distinct named same =
      let e : before ≡ k = (let f : Some before ≡ Some k = ends in cc) in
      let off : (nat_eq k n ≡ false) × (has k back ≡ false) = neither _ _ (first_apart nat_eq k (n ∷ back) distinct) in
      let out : has n back ≡ false = first_apart nat_eq n back (IsDistinct-tail nat_eq k (n ∷ back) distinct) in (
        walks.0,
        subst (λ f. IsWalk later f back) (sym (ap later (sym e) ∙ named))
            (walk_same next later (next n) back (λ m there. same m (λ is. not_both (has k back) (ap (λ j. has j back) (sym (is ∙ e)) ∙ there) off.1) (apart m n back there out)) walks.1.1),
      )
  walk_cut from (k ∷ j ∷ front) before n back walks ends distinct named same =
      let off : has k (j ∷ front ++ n ∷ back) ≡ false = first_apart nat_eq k (j ∷ front ++ n ∷ back) distinct in
      let parts : (has k (j ∷ front) ≡ false) × (has k (n ∷ back) ≡ false) = neither _ _ (sym (has_append k (j ∷ front) (n ∷ back)) ∙ off) in
      let not_before : k ≢ before = (λ e. not_both (has k (j ∷ front)) (ap (λ i. has i (j ∷ front)) e ∙ has_end (j ∷ front) before ends) parts.0) in
      let not_n : k ≢ n = (λ e. not_both (nat_eq k n) (eq-eqb k n e) (neither _ _ parts.1).0) in (
        walks.0,
        subst (λ f. IsWalk later f (j ∷ front ++ back)) (sym (same k not_before not_n))
            (walk_cut (next k) (j ∷ front) before n back walks.1 ends (IsDistinct-tail nat_eq k _ distinct) named same),
      )

-- the walk behind a front
pub walk_behind : (next : ℕ → Option ℕ) (from : Option ℕ) (front : List ℕ) (n : ℕ) (back : List ℕ) → IsWalk next from (front ++ n ∷ back) → IsWalk next (next n) back
walk_behind next from [] n back walks = walks.1
walk_behind next from (k ∷ front) n back walks = walk_behind next (next k) front n back walks.1

pub ends_behind_front : (front : List ℕ) (n : ℕ) (back : List ℕ) (last : Option ℕ) → EndsAt (front ++ n ∷ back) last → EndsAt (n ∷ back) last
ends_behind_front [] n back last ends = ends
ends_behind_front (k ∷ []) n back last ends = ends
ends_behind_front (k ∷ j ∷ front) n back last ends = ends_behind_front (j ∷ front) n back last ends

pub ends_before : (front : List ℕ) (n : ℕ) (back : List ℕ) (last : Option ℕ) → EndsAt (n ∷ back) last → EndsAt (front ++ n ∷ back) last
ends_before [] n back last ends = ends
ends_before (k ∷ []) n back last ends = ends
ends_before (k ∷ j ∷ front) n back last ends = ends_before (j ∷ front) n back last ends

-- a walk is no longer than its bound
pub length_walk : (next : ℕ → Option ℕ) (most : ℕ) (from : Option ℕ) → length (walk next most from) ≤ most
length_walk next zero from = omega arith
length_walk next (suc most) None = omega arith
length_walk next (suc most) (Some n) = omega (arith, length_walk next most (next n))

-- ---- lists of numbers

pub walk_none : (next : ℕ → Option ℕ) (most : ℕ) → walk next most None ≡ []
walk_none next zero = refl
walk_none next (suc most) = refl

pub each_same : {X : Type 0} (f g : ℕ → X) (ns : List ℕ) → ((n : ℕ) → has n ns ≡ true → f n ≡ g n) → each f ns ≡ each g ns
each_same f g [] same = refl
each_same f g (n ∷ ns) same = λ i. same n (has_head n ns) i ∷ each_same f g ns (λ m there. same m (has_tail m n ns there)) i
