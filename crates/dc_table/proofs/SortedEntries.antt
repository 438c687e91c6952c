-- A list of entries that was sorted by their keys.
use Rattle.std.proofs.Common.{◌≡◌, ℕ, ◌+◌, Bool, true, false, cond, List, [], ◌∷◌, ◌++◌, Some, None, Option, refl, sym, ap, ◌∙◌, subst, append_assoc, arith}
use Rattle.std.specs.Prelude.{T, ◌&&◌, not, map, slice_index_or as get_or}
use Rattle.std.specs.List.{AllByRecursion, IsDistinct, filter}
use Rattle.std.specs.List.Sorted.{IsStrictlySortedBy, IsSortedBy, IsStableBy, IsPermutation, ties}
use Rattle.std.specs.Str.{bytes_eq}
use Rattle.std.specs.declared.cmp.Ordering.{Ordering}
use Rattle.std.specs.declared.cmp.Ordering.TheVariants.{Less, Equal, Greater}
use Rattle.std.specs.Ordering.{eq_by_cmp, is_eq, is_lt, ordering_reverse}
use Rattle.std.specs.Cmp.{eq_by_cmp_equiv}
use Rattle.std.specs.Cmp.Lexicographic.{nat_list_cmp_total}
use Rattle.std.specs.FinMap.{FinMap, entries, from_entries, find, get-from_entries, same_map, is_sorted}
use Rattle.std.specs.FinMap.Entries.{below_all}
use Rattle.std.proofs.lemmas.List.{map-append, get_or-map, length-map}
use Rattle.std.proofs.lemmas.List.Sorted.{IsPermutation-map}
use Rattle.std.proofs.lemmas.Map.Keys.{IsDistinct-IsPermutation, apart_from_distinct, sorted_from_all_adjacent}
use Rattle.dc_text.specs.Maps.{text_cmp}
use Rattle.dc_text.proofs.MapLemmas.{exact_texts, entries-in_order}
use Rattle.dc_item.proofs.TextTableLemmas.{same_test, tied, shown}

both : (a b : Bool) → T a → T b → T (a && b)
both true b p q = q
both false b p q = p

-- neither of two texts is below the other where they tie
tie_of : (o p : Ordering) → o ≡ ordering_reverse p → not (is_lt o) && not (is_lt p) ≡ is_eq o
tie_of Less p is = refl
tie_of Equal Less is = absurd (cc)
tie_of Equal Equal is = refl
tie_of Equal Greater is = absurd (cc)
tie_of Greater Less is = refl
tie_of Greater Equal is = absurd (cc)
tie_of Greater Greater is = absurd (cc)

-- of two texts that don't tie the first is below where the second isn't
below_of : (o p : Ordering) → o ≡ ordering_reverse p → is_eq o ≡ false → is_lt p ≡ false → o ≡ Less
below_of Less p is apart up = refl
below_of Equal p is apart up = absurd (cc)
below_of Greater Less is apart up = absurd (cc)
below_of Greater Equal is apart up = absurd (cc)
below_of Greater Greater is apart up = absurd (cc)

text_below : (a b : List ℕ) → eq_by_cmp text_cmp a b ≡ false → is_lt (text_cmp b a) ≡ false → text_cmp a b ≡ Less
text_below a b apart up = below_of (text_cmp a b) (text_cmp b a) (nat_list_cmp_total.antisymm a b) apart up

module _ {Y X Z : Type 0} (g : Y → List ℕ) (h : X → Z) where
  abbrev below : Y × X → Y × X → Bool
  below a b = is_lt (text_cmp (g a.0) (g b.0))

  tie : (a b : Y × X) → ties below a b ≡ eq_by_cmp text_cmp (g a.0) (g b.0)
  tie a b = tie_of (text_cmp (g a.0) (g b.0)) (text_cmp (g b.0) (g a.0)) (nat_list_cmp_total.antisymm (g a.0) (g b.0))

  -- ---- what a stable sort keeps

  abbrev first_value : List (Y × X) → Option Z
  first_value [] = None
  first_value (e ∷ es) = Some (h e.1)

  find-filter : (q : List ℕ) (es : List (Y × X)) → find text_cmp q (shown g h es) ≡ first_value (filter (λ e. eq_by_cmp text_cmp q (g e.0)) es)
  find-filter q [] = refl
  find-filter q (e ∷ es) =
      elim (eq_by_cmp text_cmp q (g e.0)) as (λ b. cond b (Some (h e.1)) (find text_cmp q (shown g h es)) ≡ first_value (cond b (e ∷ filter (λ d. eq_by_cmp text_cmp q (g d.0)) es) (filter (λ d. eq_by_cmp text_cmp q (g d.0)) es))) [
        | true ↦ refl
        | false ↦ find-filter q es
      ]

  -- a text that is found is the key of an entry
  entry_of : (q : List ℕ) (v : Z) (es : List (Y × X)) → find text_cmp q (shown g h es) ≡ Some v → (e : Y × X) × (eq_by_cmp text_cmp q (g e.0) ≡ true)
  entry_of q v [] is = absurd (cc)
  entry_of q v (e ∷ es) is =
      elim (eq_by_cmp text_cmp q (g e.0)) as (λ b. eq_by_cmp text_cmp q (g e.0) ≡ b → cond b (Some (h e.1)) (find text_cmp q (shown g h es)) ≡ Some v → (d : Y × X) × (eq_by_cmp text_cmp q (g d.0) ≡ true)) [
        | true ↦ λ t _. (e, t)
        | false ↦ λ _ more. entry_of q v es more
      ] refl is

  module _ (es fs : List (Y × X)) (stable : IsStableBy below es fs) where
    same_at : (q : List ℕ) (e : Y × X) → q ≡ g e.0 → find text_cmp q (shown g h fs) ≡ find text_cmp q (shown g h es)
    same_at q e is =
        ap (λ p. find text_cmp p (shown g h fs)) is ∙ find-filter (g e.0) fs
        ∙ ap first_value ((λ i. filter (λ d. sym (tie e d) i) fs) ∙ stable e ∙ (λ i. filter (λ d. tie e d i) es))
        ∙ sym (find-filter (g e.0) es) ∙ ap (λ p. find text_cmp p (shown g h es)) (sym is)

    same_found : (q : List ℕ) → find text_cmp q (shown g h fs) ≡ find text_cmp q (shown g h es)
    same_found q = elim (find text_cmp q (shown g h es)) as (λ o. find text_cmp q (shown g h es) ≡ o → find text_cmp q (shown g h fs) ≡ o) [
      | Some v ↦ λ is. (let e : (e : Y × X) × (eq_by_cmp text_cmp q (g e.0) ≡ true) = entry_of q v es is in same_at q e.0 (tied q (g e.0.0) e.1)) ∙ is
      | None ↦ λ is. elim (find text_cmp q (shown g h fs)) as (λ o. find text_cmp q (shown g h fs) ≡ o → o ≡ None) [
        | Some w ↦ λ has. (let e : (e : Y × X) × (eq_by_cmp text_cmp q (g e.0) ≡ true) = entry_of q w fs has in sym has ∙ same_at q e.0 (tied q (g e.0.0) e.1)) ∙ is
        | None ↦ λ _. refl
      ] refl
    ] refl

    same_of_sorted : from_entries {R = text_cmp} (shown g h fs) ≡ from_entries (shown g h es)
    same_of_sorted = same_map nat_list_cmp_total exact_texts _ _ (λ q.
        get-from_entries nat_list_cmp_total (shown g h fs) q ∙ same_found q ∙ sym (get-from_entries nat_list_cmp_total (shown g h es) q))

  -- ---- keys of which no two are the same rise

  abbrev keys : List (Y × X) → List (List ℕ)
  keys es = map (λ e. g e.0) es

  keys_rise : (es : List (Y × X)) → IsSortedBy below es → IsDistinct (eq_by_cmp text_cmp) (keys es) → IsStrictlySortedBy text_cmp (keys es)
  unfolding IsStrictlySortedBy
  keys_rise [] up apart = tt
  keys_rise (e ∷ es) up apart = sorted_from_all_adjacent nat_list_cmp_total (keys (e ∷ es)) (g e.0) (λ k less.
      let long = length-map (e ∷ es) (λ d. g d.0) in
      let one = get_or-map (λ d. g d.0) (e ∷ es) k e (g e.0) (omega arith) in
      let next = get_or-map (λ d. g d.0) (e ∷ es) (k + 1) e (g e.0) (omega arith) in
      text_below (get_or (keys (e ∷ es)) k (g e.0)) (get_or (keys (e ∷ es)) (k + 1) (g e.0)) (apart_from_distinct (eq_by_cmp text_cmp) (keys (e ∷ es)) k (k + 1) (g e.0) apart (omega arith) less)
      ((λ i. is_lt (text_cmp (next i) (one i))) ∙ up k e (omega arith) (omega arith)))

  below_rest : (k : List ℕ) (es : List (Y × X)) → AllByRecursion (λ q. text_cmp k q ≡ Less) (keys es) → T (below_all text_cmp k (shown g h es))
  below_rest k [] a = tt
  below_rest k (e ∷ es) a = both _ _ (subst (λ o. T (is_lt o)) (sym a.0) tt) (below_rest k es a.1)

  rises : (es : List (Y × X)) → IsStrictlySortedBy text_cmp (keys es) → T (is_sorted text_cmp (shown g h es))
  unfolding IsStrictlySortedBy
  rises [] a = tt
  rises (e ∷ es) a = both _ _ (below_rest (g e.0) es a.0) (rises es a.1)

  keys-shown : (es : List (Y × X)) → map (λ (e : List ℕ × Z). e.0) (shown g h es) ≡ keys es
  keys-shown [] = refl
  keys-shown (e ∷ es) = ap (λ l. g e.0 ∷ l) (keys-shown es)

-- ---- keys that differ as texts

module _ {Z : Type 0} where
  apart_texts : (k : List ℕ) (es : List (List ℕ × Z)) → AllByRecursion (λ q. bytes_eq k q ≡ false) (map (λ (e : List ℕ × Z). e.0) es)
      → AllByRecursion (λ q. eq_by_cmp text_cmp k q ≡ false) (map (λ (e : List ℕ × Z). e.0) es)
  apart_texts k [] a = tt
  apart_texts k (e ∷ es) a = (sym (same_test k e.0) ∙ a.0, apart_texts k es a.1)

  distinct_texts : (es : List (List ℕ × Z)) → IsDistinct bytes_eq (map (λ (e : List ℕ × Z). e.0) es) → IsDistinct (eq_by_cmp text_cmp) (map (λ (e : List ℕ × Z). e.0) es)
  unfolding IsDistinct
  distinct_texts [] a = tt
  distinct_texts (e ∷ es) a = (apart_texts e.0 es a.0, distinct_texts es a.1)

-- ---- the entries of a map, listed and sorted

module _ {Y X Z : Type 0} (g : Y → List ℕ) (h : X → Z) where
  -- one more entry is listed
  pub listed_next : (whole : List (List ℕ × Z)) (es fs : List (Y × X)) (left rest : List (List ℕ × Z)) (k : List ℕ) (y : Y) (v : X) → left ≡ (k, h v) ∷ rest → shown g h es ++ left ≡ whole → fs ≡ es ++ (y, v) ∷ [] → g y ≡ k
      → shown g h fs ++ rest ≡ whole
  listed_next whole es fs left rest k y v at so_far is key =
      ap (λ l. shown g h l ++ rest) is ∙ ap (λ l. l ++ rest) (map-append (λ (e : Y × X). (g e.0, h e.1)) es ((y, v) ∷ []))
      ∙ append_assoc (shown g h es) ((g y, h v) ∷ []) rest ∙ (λ i. shown g h es ++ (key i, h v) ∷ rest) ∙ ap (λ l. shown g h es ++ l) (sym at) ∙ so_far

  pub sorted_entries : (all : List (List ℕ × Z)) (es fs : List (Y × X)) (m : FinMap text_cmp Z) → shown g h es ≡ all → IsDistinct bytes_eq (map (λ (e : List ℕ × Z). e.0) all) → from_entries all ≡ m
      → IsPermutation es fs → IsSortedBy (λ a b. is_lt (text_cmp (g a.0) (g b.0))) fs → IsStableBy (λ a b. is_lt (text_cmp (g a.0) (g b.0))) es fs → shown g h fs ≡ entries m
  sorted_entries all es fs m listed distinct is moved sorted stable =
      let apart : IsDistinct (eq_by_cmp text_cmp) (map (λ (e : Y × X). g e.0) es)
      = subst (IsDistinct (eq_by_cmp text_cmp)) (ap (map (λ (e : List ℕ × Z). e.0)) (sym listed) ∙ keys-shown g h es) (distinct_texts all distinct) in
      let still : IsDistinct (eq_by_cmp text_cmp) (map (λ (e : Y × X). g e.0) fs)
      = IsDistinct-IsPermutation (eq_by_cmp text_cmp) (eq_by_cmp_equiv nat_list_cmp_total).symm _ _ (IsPermutation-map (λ (e : Y × X). g e.0) es fs moved) apart in
      sym (entries-in_order (shown g h fs) (rises g h fs (keys_rise g h fs sorted still)))
      ∙ ap entries (same_of_sorted g h es fs stable ∙ ap (λ l. from_entries l) listed ∙ is)
