-- What a search finds among entries whose keys rise, and what an edit at that place does.
use Rattle.std.proofs.Common.{◌≡◌, ℕ, zero, suc, ◌<◌, Bool, true, false, cond, not, List, [], ◌∷◌, length, get_or, set, Some, None, Option, Result, Ok, Err, refl, sym, ap, subst, ◌∙◌, arith, add-one}
use Rattle.std.specs.Prelude.{T, ◌&&◌, MatchResult}
use Rattle.std.specs.List as holes
use Rattle.std.specs.List.{filter}
use Rattle.std.specs.List.Sorted.{IsSearchInRange, IsBinarySearchResult, IsNonDecreasingBy}
use Rattle.std.specs.declared.cmp.Ordering.{Ordering}
use Rattle.std.specs.declared.cmp.Ordering.TheVariants.{Less, Equal, Greater}
use Rattle.std.specs.Ordering.{is_lt, is_eq, eq_by_cmp, ordering_index, ordering_reverse}
use Rattle.std.specs.Cmp.{alike_right, eq_by_cmp_equiv, tied_itself}
use Rattle.std.specs.Cmp.Lexicographic.{nat_list_cmp_total}
use Rattle.std.specs.FinMap.{put, is_sorted, find, entries-from_sorted, entries-insert, from_sorted, same_entries_map, same_map, get-from_sorted, get-remove, empty_of_len, len-entries, insert, remove, empty}
use Rattle.std.specs.FinMap.Entries.{by_order, below_all, is_sorted-put, find-where_key, is_sorted-where_key}
use Rattle.std.proofs.lemmas.List.Sorted.{searchable_from_sorted}
use Rattle.dc_text.specs.Maps.{text_cmp}
use Rattle.dc_text.proofs.MapLemmas.{exact_texts}
use Rattle.dc_parts.specs.Places.{IsAt, IsGapFor}

pub first : (a b : Bool) → T (a && b) → T a
first true b p = tt
first false b p = p

pub second : (a b : Bool) → T (a && b) → T b
second true b p = p
second false b p = absurd p

pub less : (o : Ordering) → T (is_lt o) → o ≡ Less
less Less p = refl
less Equal p = absurd p
less Greater p = absurd p

-- the other way round
pub above : (p q : List ℕ) → text_cmp p q ≡ Less → text_cmp q p ≡ Greater
above p q h = nat_list_cmp_total.antisymm q p ∙ ap ordering_reverse h

below : (p q : List ℕ) → text_cmp p q ≡ Greater → text_cmp q p ≡ Less
below p q h = nat_list_cmp_total.antisymm q p ∙ ap ordering_reverse h

tied : (p q : List ℕ) → p ≡ q → text_cmp q p ≡ Equal
tied p q is = ap (text_cmp q) is ∙ tied_itself nat_list_cmp_total q

-- ---- keys in order

module _ {X : Type 0} where
  below_at : (x : List ℕ) (es : List (List ℕ × X)) (i : ℕ) → T (below_all text_cmp x es) → i < length es → (d : List ℕ × X) → text_cmp x (get_or es i d).0 ≡ Less
  below_at x [] i h lt d = absurd (omega arith)
  below_at x (e ∷ es) zero h lt d = less _ (first _ _ h)
  below_at x (e ∷ es) (suc i) h lt d = below_at x es i (second _ _ h) (omega arith) d

  step_up : (es : List (List ℕ × X)) → T (is_sorted text_cmp es) → (k : ℕ) (d : List ℕ × X) → suc k < length es → is_lt (text_cmp (get_or es (suc k) d).0 (get_or es k d).0) ≡ false
  step_up [] h k d lt = absurd (omega arith)
  step_up (e ∷ es) h zero d lt = ap is_lt (above e.0 _ (below_at e.0 es 0 (first _ _ h) (omega arith) d))
  step_up (e ∷ es) h (suc k) d lt = step_up es (second _ _ h) k d (omega arith)

  -- the comparisons with a key rise, as a binary search asks
  comparisons_rise : (es : List (List ℕ × X)) → T (is_sorted text_cmp es) → (q : List ℕ) → IsNonDecreasingBy (λ e. ordering_index (text_cmp e.0 q)) es
  comparisons_rise es h q = searchable_from_sorted nat_list_cmp_total (λ e. e.0) es q (λ k d from lt. rw add-one (step_up es h k d (omega arith)))

  -- a binary search ends at the key, or in the gap for it
  pub searched : (es : List (List ℕ × X)) → T (is_sorted text_cmp es) → (q : List ℕ) (r : Result ℕ ℕ) → IsSearchInRange r (length es) → IsBinarySearchResult (λ e. text_cmp e.0 q) es r → MatchResult r (IsAt q es) (IsGapFor q es)
  searched es h q (Ok i) within equal = record { in_range = within; has_key = λ d. exact_texts _ q (equal d) }
  searched es h q (Err i) within parted = record { in_range = within; parted = parted (comparisons_rise es h q) }

  -- ---- the tail of a list, where a place is one lower

  is_at_tail : (q : List ℕ) (e : List ℕ × X) (es : List (List ℕ × X)) (i : ℕ) → IsAt q (e ∷ es) (suc i) → IsAt q es i
  is_at_tail q e es i at = record { in_range = omega (arith, at.in_range); has_key = at.has_key }

  gap_tail : (q : List ℕ) (e : List ℕ × X) (es : List (List ℕ × X)) (i : ℕ) → IsGapFor q (e ∷ es) (suc i) → IsGapFor q es i
  gap_tail q e es i gap = record {
    in_range = omega (arith, gap.in_range);
    parted = (λ k d from lt. gap.parted.0 (suc k) d (omega arith) (omega arith), λ k d from lt. gap.parted.1 (suc k) d (omega arith) (omega arith));
  }

  -- the first key is lower than a later one
  first_below : (q : List ℕ) (e : List ℕ × X) (es : List (List ℕ × X)) (i : ℕ) → T (is_sorted text_cmp (e ∷ es)) → IsAt q (e ∷ es) (suc i) → text_cmp q e.0 ≡ Greater
  first_below q e es i h at = above e.0 q (ap (text_cmp e.0) (sym (at.has_key e)) ∙ below_at e.0 es i (first _ _ h) (omega (arith, at.in_range)) e)

  gap_above : (q : List ℕ) (e : List ℕ × X) (es : List (List ℕ × X)) (i : ℕ) → IsGapFor q (e ∷ es) (suc i) → text_cmp q e.0 ≡ Greater
  gap_above q e es i gap = above e.0 q (gap.parted.0 0 e (omega arith) (omega arith))

  gap_below : (q : List ℕ) (e : List ℕ × X) (es : List (List ℕ × X)) → IsGapFor q (e ∷ es) 0 → text_cmp q e.0 ≡ Less
  gap_below q e es gap = below e.0 q (gap.parted.1 0 e (omega arith) (omega arith))

  -- ---- what is found

  pub find_at : (q : List ℕ) (es : List (List ℕ × X)) (i : ℕ) (d : List ℕ × X) → T (is_sorted text_cmp es) → IsAt q es i → find text_cmp q es ≡ Some (get_or es i d).1
  find_at q [] i d h at = absurd (omega (arith, at.in_range))
  find_at q (e ∷ es) zero d h at = ap (λ o. cond (is_eq o) (Some e.1) (find text_cmp q es)) (tied e.0 q (at.has_key e))
  find_at q (e ∷ es) (suc i) d h at = ap (λ o. cond (is_eq o) (Some e.1) (find text_cmp q es)) (first_below q e es i h at) ∙ find_at q es i d (second _ _ h) (is_at_tail q e es i at)

  -- a key that is below all entries isn't found
  pub find_below : (q : List ℕ) (es : List (List ℕ × X)) → T (below_all text_cmp q es) → find text_cmp q es ≡ None
  find_below q [] h = refl
  find_below q (e ∷ es) h = ap (λ o. cond (is_eq o) (Some e.1) (find text_cmp q es)) (less _ (first _ _ h)) ∙ find_below q es (second _ _ h)

  pub find_gap : (q : List ℕ) (es : List (List ℕ × X)) (i : ℕ) → IsGapFor q es i → find text_cmp q es ≡ None
  find_gap q [] i gap = refl
  find_gap q (e ∷ es) zero gap = ap (λ o. cond (is_eq o) (Some e.1) (find text_cmp q es)) (gap_below q e es gap) ∙ find_gap q es 0 (record { in_range = omega arith; parted = (λ k d from lt. absurd (omega arith), λ k d from lt. gap.parted.1 (suc k) d (omega arith) (omega arith)) })
  find_gap q (e ∷ es) (suc i) gap = ap (λ o. cond (is_eq o) (Some e.1) (find text_cmp q es)) (gap_above q e es i gap) ∙ find_gap q es i (gap_tail q e es i gap)

  -- ---- what an edit does

  pub set_at : (q : List ℕ) (v : X) (es : List (List ℕ × X)) (i : ℕ) (x : List ℕ × X) → T (is_sorted text_cmp es) → IsAt q es i → x ≡ get_or es i x → set es i (x.0, v) ≡ put text_cmp q v es
  set_at q v [] i x h at is = absurd (omega (arith, at.in_range))
  set_at q v (e ∷ es) zero x h at is = ap (λ (y : List ℕ × X). (y.0, v) ∷ es) is ∙ ap (λ o. by_order o ((q, v) ∷ e ∷ es) ((e.0, v) ∷ es) (e ∷ put text_cmp q v es)) (sym (tied e.0 q (at.has_key e)))
  set_at q v (e ∷ es) (suc i) x h at is = ap (λ l. e ∷ l) (set_at q v es i x (second _ _ h) (is_at_tail q e es i at) is) ∙ ap (λ o. by_order o ((q, v) ∷ e ∷ es) ((e.0, v) ∷ es) (e ∷ put text_cmp q v es)) (sym (first_below q e es i h at))

  pub insert_gap : (q : List ℕ) (v : X) (es : List (List ℕ × X)) (i : ℕ) → IsGapFor q es i → holes.insert es i (q, v) ≡ put text_cmp q v es
  insert_gap q v [] zero gap = refl
  insert_gap q v [] (suc i) gap = absurd (omega (arith, gap.in_range))
  insert_gap q v (e ∷ es) zero gap = ap (λ o. by_order o ((q, v) ∷ e ∷ es) ((e.0, v) ∷ es) (e ∷ put text_cmp q v es)) (sym (gap_below q e es gap))
  insert_gap q v (e ∷ es) (suc i) gap = ap (λ l. e ∷ l) (insert_gap q v es i (gap_tail q e es i gap)) ∙ ap (λ o. by_order o ((q, v) ∷ e ∷ es) ((e.0, v) ∷ es) (e ∷ put text_cmp q v es)) (sym (gap_above q e es i gap))

  -- the entries but those of a key
  abbrev pub without : List ℕ → List (List ℕ × X) → List (List ℕ × X)
  without q es = filter (λ e. not (eq_by_cmp text_cmp q e.0)) es

  found_not_none : (b : Bool) (x : X) (r : Option X) → cond b (Some x) r ≡ None → (b ≡ false) × (r ≡ None)
  found_not_none true x r is = cc
  found_not_none false x r is = (refl, is)

  -- a key that isn't found leaves the entries
  pub without_none : (q : List ℕ) (es : List (List ℕ × X)) → find text_cmp q es ≡ None → without q es ≡ es
  without_none q [] none = refl
  without_none q (e ∷ es) none =
      let not_here = found_not_none (eq_by_cmp text_cmp q e.0) e.1 (find text_cmp q es) none in
      ap (λ b. cond (not b) (e ∷ without q es) (without q es)) not_here.0 ∙ ap (λ l. e ∷ l) (without_none q es not_here.1)

  pub remove_at : (q : List ℕ) (es : List (List ℕ × X)) (i : ℕ) → T (is_sorted text_cmp es) → IsAt q es i → holes.remove es i ≡ without q es
  remove_at q [] i h at = absurd (omega (arith, at.in_range))
  remove_at q (e ∷ es) zero h at =
      sym (ap (λ o. cond (not (is_eq o)) (e ∷ without q es) (without q es)) (tied e.0 q (at.has_key e))
      ∙ without_none q es (find_below q es (subst (λ p. T (below_all text_cmp p es)) (at.has_key e) (first _ _ h))))
  remove_at q (e ∷ es) (suc i) h at =
      ap (λ l. e ∷ l) (remove_at q es i (second _ _ h) (is_at_tail q e es i at))
      ∙ sym (ap (λ o. cond (not (is_eq o)) (e ∷ without q es) (without q es)) (first_below q e es i h at))

-- ---- the map of entries in order

pub is_sorted_put : {X : Type 0} (q : List ℕ) (v : X) (es fs : List (List ℕ × X)) → T (is_sorted text_cmp es) → fs ≡ put text_cmp q v es → T (is_sorted text_cmp fs)
is_sorted_put q v es fs h is = subst (λ l. T (is_sorted text_cmp l)) (sym is) (is_sorted-put text_cmp nat_list_cmp_total q v es h)

pub from_sorted_put : {X : Type 0} (q : List ℕ) (v : X) (es fs : List (List ℕ × X)) → T (is_sorted text_cmp es) → fs ≡ put text_cmp q v es → from_sorted {R = text_cmp} fs ≡ insert (from_sorted es) q v
from_sorted_put q v es fs h is =
    same_entries_map _ _ (entries-from_sorted text_cmp fs (is_sorted_put q v es fs h is) ∙ is ∙ ap (put text_cmp q v) (sym (entries-from_sorted text_cmp es h)) ∙ sym (entries-insert nat_list_cmp_total (from_sorted es) q v))

pub from_sorted_none : {X : Type 0} (es : List (List ℕ × X)) → es ≡ [] → from_sorted {R = text_cmp} es ≡ empty
from_sorted_none es is = ap (from_sorted {R = text_cmp}) is ∙ empty_of_len _ (len-entries (from_sorted {R = text_cmp} []) ∙ ap length (entries-from_sorted text_cmp [] tt))

turned : {A : Type 0} (b c : Bool) (x y : A) → b ≡ c → cond (not b) x y ≡ cond c y x
turned true c x y e = ap (λ d. cond d y x) e
turned false c x y e = ap (λ d. cond d y x) e

pub is_sorted_without : {X : Type 0} (q : List ℕ) (es fs : List (List ℕ × X)) → T (is_sorted text_cmp es) → fs ≡ without q es → T (is_sorted text_cmp fs)
is_sorted_without q es fs h is = subst (λ l. T (is_sorted text_cmp l)) (sym is) (is_sorted-where_key text_cmp (λ x. not (eq_by_cmp text_cmp q x)) es h)

pub from_sorted_without : {X : Type 0} (q : List ℕ) (es fs : List (List ℕ × X)) → T (is_sorted text_cmp es) → fs ≡ without q es → from_sorted {R = text_cmp} fs ≡ remove (from_sorted es) q
from_sorted_without k es fs h is =
    same_map nat_list_cmp_total exact_texts _ _ (λ q.
    get-from_sorted text_cmp fs q (is_sorted_without k es fs h is)
    ∙ ap (find text_cmp q) is
    ∙ find-where_key text_cmp (λ x. not (eq_by_cmp text_cmp k x)) q (λ x t. ap (λ r. not (is_eq r)) (sym (alike_right nat_list_cmp_total q x k t))) es
    ∙ turned (eq_by_cmp text_cmp k q) (eq_by_cmp text_cmp q k) _ _ ((eq_by_cmp_equiv nat_list_cmp_total).symm k q)
    ∙ ap (cond (eq_by_cmp text_cmp q k) None) (sym (get-from_sorted text_cmp es q h))
    ∙ sym (get-remove nat_list_cmp_total (from_sorted es) k q))
