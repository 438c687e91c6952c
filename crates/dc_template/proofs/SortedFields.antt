-- Fields that were sorted by their keys.
use Rattle.std.proofs.Common.{◌≡◌, ℕ, ◌+◌, Bool, true, false, cond, List, [], ◌∷◌, Some, None, Option, refl, sym, ap, ◌∙◌, subst, arith}
use Rattle.std.specs.Prelude.{T, ◌&&◌, not, slice_index_or as get_or}
use Rattle.std.specs.List.{AllByRecursion, IsDistinct, filter}
use Rattle.std.specs.List.Sorted.{IsStrictlySortedBy, IsSortedBy, IsStableBy, IsPermutation, ties}
use Rattle.std.specs.Str.{bytes_eq}
use Rattle.std.specs.declared.cmp.Ordering.{Ordering}
use Rattle.std.specs.declared.cmp.Ordering.TheVariants.{Less, Equal, Greater}
use Rattle.std.specs.Ordering.{eq_by_cmp, is_eq, is_lt, ordering_reverse}
use Rattle.std.specs.Cmp.{eq_by_cmp_equiv}
use Rattle.std.specs.Cmp.Lexicographic.{nat_list_cmp_total}
use Rattle.std.specs.FinMap.{entries, from_entries, find, get-from_entries, same_map, is_sorted}
use Rattle.std.specs.FinMap.Entries.{below_all}
use Rattle.std.proofs.lemmas.List.{get_or-map, length-map}
use Rattle.std.proofs.lemmas.List.Sorted.{IsPermutation-map}
use Rattle.std.proofs.lemmas.Map.Keys.{IsDistinct-IsPermutation, apart_from_distinct, sorted_from_all_adjacent}
use Rattle.std.proofs.lemmas.Map.Text.{is_eq-slice_cmp}
use Rattle.dc_text.specs.Maps.{text_cmp}
use Rattle.dc_text.proofs.MapLemmas.{exact_texts, entries-in_order}
use Rattle.dc_template.specs.Fields.{keys_of, AreApart}
use Rattle.dc_template.proofs.SoundLemmas.{key_same}

both : (a b : Bool) → T a → T b → T (a && b)
both true b p q = q
both false b p q = p

-- neither of two texts is below the other where they tie
tie_of : (o p : Ordering) → o ≡ ordering_reverse p → not (is_lt o) && not (is_lt p) ≡ is_eq o
tie_of Less p is = refl
tie_of Equal Less is = absurd (cc)
tie_of Equal Equal is = refl
tie_of Equal Greater is = absurd (cc)
tie_of Greater Less is = refl
tie_of Greater Equal is = absurd (cc)
tie_of Greater Greater is = absurd (cc)

-- of two texts that don't tie the first is below where the second isn't
below_of : (o p : Ordering) → o ≡ ordering_reverse p → is_eq o ≡ false → is_lt p ≡ false → o ≡ Less
below_of Less p is apart up = refl
below_of Equal p is apart up = absurd (cc)
below_of Greater Less is apart up = absurd (cc)
below_of Greater Equal is apart up = absurd (cc)
below_of Greater Greater is apart up = absurd (cc)

text_below : (a b : List ℕ) → eq_by_cmp text_cmp a b ≡ false → is_lt (text_cmp b a) ≡ false → text_cmp a b ≡ Less
text_below a b apart up = below_of (text_cmp a b) (text_cmp b a) (nat_list_cmp_total.antisymm a b) apart up

abbrev Fields : Type 0
Fields = List (List ℕ × List ℕ)

abbrev below : List ℕ × List ℕ → List ℕ × List ℕ → Bool
below a b = is_lt (text_cmp a.0 b.0)

tie : (a b : List ℕ × List ℕ) → ties below a b ≡ eq_by_cmp text_cmp a.0 b.0
tie a b = tie_of (text_cmp a.0 b.0) (text_cmp b.0 a.0) (nat_list_cmp_total.antisymm a.0 b.0)

-- ---- what a stable sort keeps

abbrev first_value : Fields → Option (List ℕ)
first_value [] = None
first_value (e ∷ es) = Some e.1

find-filter : (q : List ℕ) (es : Fields) → find text_cmp q es ≡ first_value (filter (λ e. eq_by_cmp text_cmp q e.0) es)
find-filter q [] = refl
find-filter q (e ∷ es) =
    elim (eq_by_cmp text_cmp q e.0) as (λ b. cond b (Some e.1) (find text_cmp q es) ≡ first_value (cond b (e ∷ filter (λ d. eq_by_cmp text_cmp q d.0) es) (filter (λ d. eq_by_cmp text_cmp q d.0) es))) [
      | true ↦ refl
      | false ↦ find-filter q es
    ]

-- a text that is found is the key of a field
field_of : (q v : List ℕ) (es : Fields) → find text_cmp q es ≡ Some v → (e : List ℕ × List ℕ) × (q ≡ e.0)
field_of q v [] is = absurd (cc)
field_of q v (e ∷ es) is =
    elim (eq_by_cmp text_cmp q e.0) as (λ b. eq_by_cmp text_cmp q e.0 ≡ b → cond b (Some e.1) (find text_cmp q es) ≡ Some v → (d : List ℕ × List ℕ) × (q ≡ d.0)) [
      | true ↦ λ t _. (e, key_same q e.0 t)
      | false ↦ λ _ more. field_of q v es more
    ] refl is

module _ (es fs : Fields) (stable : IsStableBy below es fs) where
  same_at : (q : List ℕ) (e : List ℕ × List ℕ) → q ≡ e.0 → find text_cmp q fs ≡ find text_cmp q es
  same_at q e is =
      ap (λ p. find text_cmp p fs) is ∙ find-filter e.0 fs
      ∙ ap first_value ((λ i. filter (λ d. sym (tie e d) i) fs) ∙ stable e ∙ (λ i. filter (λ d. tie e d i) es))
      ∙ sym (find-filter e.0 es) ∙ ap (λ p. find text_cmp p es) (sym is)

  same_found : (q : List ℕ) → find text_cmp q fs ≡ find text_cmp q es
  same_found q = elim (find text_cmp q es) as (λ o. find text_cmp q es ≡ o → find text_cmp q fs ≡ o) [
    | Some v ↦ λ is. (let e : (e : List ℕ × List ℕ) × (q ≡ e.0) = field_of q v es is in same_at q e.0 e.1) ∙ is
    | None ↦ λ is. elim (find text_cmp q fs) as (λ o. find text_cmp q fs ≡ o → o ≡ None) [
      | Some w ↦ λ has. (let e : (e : List ℕ × List ℕ) × (q ≡ e.0) = field_of q w fs has in sym has ∙ same_at q e.0 e.1) ∙ is
      | None ↦ λ _. refl
    ] refl
  ] refl

  same_of_sorted : from_entries {R = text_cmp} fs ≡ from_entries es
  same_of_sorted = same_map nat_list_cmp_total exact_texts _ _ (λ q.
      get-from_entries nat_list_cmp_total fs q ∙ same_found q ∙ sym (get-from_entries nat_list_cmp_total es q))

-- ---- keys of which no two are the same rise

keys_rise : (es : Fields) → IsSortedBy below es → IsDistinct (eq_by_cmp text_cmp) (keys_of es) → IsStrictlySortedBy text_cmp (keys_of es)
unfolding IsStrictlySortedBy
keys_rise [] up apart = tt
keys_rise (e ∷ es) up apart = sorted_from_all_adjacent nat_list_cmp_total (keys_of (e ∷ es)) e.0 (λ k less.
    let long = length-map (e ∷ es) (λ d. d.0) in
    let one = get_or-map (λ (d : List ℕ × List ℕ). d.0) (e ∷ es) k e e.0 (omega arith) in
    let next = get_or-map (λ (d : List ℕ × List ℕ). d.0) (e ∷ es) (k + 1) e e.0 (omega arith) in
    text_below (get_or (keys_of (e ∷ es)) k e.0) (get_or (keys_of (e ∷ es)) (k + 1) e.0) (apart_from_distinct (eq_by_cmp text_cmp) (keys_of (e ∷ es)) k (k + 1) e.0 apart (omega arith) less)
    ((λ i. is_lt (text_cmp (next i) (one i))) ∙ up k e (omega arith) (omega arith)))

below_rest : (k : List ℕ) (es : Fields) → AllByRecursion (λ q. text_cmp k q ≡ Less) (keys_of es) → T (below_all text_cmp k es)
below_rest k [] a = tt
below_rest k (e ∷ es) a = both _ _ (subst (λ o. T (is_lt o)) (sym a.0) tt) (below_rest k es a.1)

rises : (es : Fields) → IsStrictlySortedBy text_cmp (keys_of es) → T (is_sorted text_cmp es)
unfolding IsStrictlySortedBy
rises [] a = tt
rises (e ∷ es) a = both _ _ (below_rest e.0 es a.0) (rises es a.1)

-- ---- keys that differ as texts

apart_texts : (k : List ℕ) (es : Fields) → AllByRecursion (λ q. bytes_eq k q ≡ false) (keys_of es) → AllByRecursion (λ q. eq_by_cmp text_cmp k q ≡ false) (keys_of es)
apart_texts k [] a = tt
apart_texts k (e ∷ es) a = (is_eq-slice_cmp k e.0 ∙ a.0, apart_texts k es a.1)

distinct_texts : (es : Fields) → AreApart es → IsDistinct (eq_by_cmp text_cmp) (keys_of es)
unfolding IsDistinct
distinct_texts [] a = tt
distinct_texts (e ∷ es) a = (apart_texts e.0 es a.0, distinct_texts es a.1)

-- fields that were sorted are the entries of their map
pub sorted_fields : (es fs : Fields) → AreApart es → IsPermutation es fs → IsSortedBy (λ a b. is_lt (text_cmp a.0 b.0)) fs → IsStableBy (λ a b. is_lt (text_cmp a.0 b.0)) es fs → fs ≡ entries (from_entries {R = text_cmp} es)
sorted_fields es fs distinct moved sorted stable =
    let still : IsDistinct (eq_by_cmp text_cmp) (keys_of fs)
    = IsDistinct-IsPermutation (eq_by_cmp text_cmp) (eq_by_cmp_equiv nat_list_cmp_total).symm _ _ (IsPermutation-map (λ (e : List ℕ × List ℕ). e.0) es fs moved) (distinct_texts es distinct) in
    sym (entries-in_order fs (rises fs (keys_rise fs sorted still))) ∙ ap entries (same_of_sorted es fs stable)
