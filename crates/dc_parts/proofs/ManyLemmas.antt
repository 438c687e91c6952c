-- What an edit of a sorted vector of pairs does.
use Rattle.std.proofs.Common.{◌≡◌, ℕ, ◌+◌, List, ◌∷◌, ◌++◌, [], length, true, false, Err, arith, set, get_or, refl, sym, ap, ◌∙◌, subst}
use Rattle.std.specs.Prelude.{T, ◌≤◌, is_some}
use Rattle.std.specs.List.Sorted.{IsBinarySearchResult}
use Rattle.std.specs.declared.cmp.Ordering.{Ordering}
use Rattle.std.specs.declared.cmp.Ordering.TheVariants.{Less, Equal, Greater}
use Rattle.std.specs.Ordering.{ordering_index, is_lt}
use Rattle.std.specs.FinMap.{FinMap, put, is_sorted, find, entries, entries_sorted, from_sorted, same_entries_map, entries-from_sorted, contains_key, get-from_sorted}
use Rattle.std.proofs.lemmas.List.{get_or_default, length-append}
use Rattle.std.proofs.Math.Seq.{get_or-append_seam}
use Rattle.dc_text.specs.Maps.{text_cmp}
use Rattle.dc_parts.specs.Places.{IsAt, IsGapFor}
use Rattle.dc_parts.proofs.PlaceLemmas.{set_at, searched, find_at, find_gap}

lowest : (o p : Ordering) → ordering_index o ≤ ordering_index p → is_lt p ≡ true → o ≡ Less
lowest Less p h e = refl
lowest Equal Less h e = absurd (omega arith)
lowest Equal Equal h e = absurd (cc)
lowest Equal Greater h e = absurd (cc)
lowest Greater Less h e = absurd (omega arith)
lowest Greater Equal h e = absurd (cc)
lowest Greater Greater h e = absurd (cc)

-- a search ends behind all, where the last one is low
pub behind : {A : Type 0} (compared : A → Ordering) (xs front : List A) (last : A) → xs ≡ front ++ last ∷ [] → is_lt (compared last) ≡ true → IsBinarySearchResult compared xs (Err (length xs))
behind compared xs front last is low = λ rise.
    let long : length xs ≡ length front + 1 = ap length is ∙ length-append front (last ∷ []) in (
      λ k d from lt.
          let there : get_or xs (length front) d ≡ last = ap (λ l. get_or l (length front) d) is ∙ get_or-append_seam front last [] d in
          lowest (compared (get_or xs k d)) (compared (get_or xs (length front) d)) (rise k (length front) d (omega (arith, lt, long)) (omega (arith, long))) (ap (λ x. is_lt (compared x)) there ∙ low),
      λ k d from lt. absurd (omega (arith, from, lt)),
    )

-- to write over the pair that has a key is to put the value at the key
pub set_pair : (q v : List ℕ) (es : List (List ℕ × List ℕ)) (i : ℕ) (pair : List ℕ × List ℕ) → T (is_sorted text_cmp es) → IsAt q es i → pair ≡ (q, v) → set es i pair ≡ put text_cmp q v es
set_pair q v es i pair h at is =
    let old : List ℕ × List ℕ = get_or es i (q, v) in
    let key : old.0 ≡ q = at.has_key (q, v) in
    ap (set es i) (is ∙ ap (λ k. (k, v)) (sym key)) ∙ set_at q v es i old h at (get_or_default es i (q, v) old at.in_range)

-- a key above the last one goes behind all
pub gap_behind : (q : List ℕ) (es front : List (List ℕ × List ℕ)) (last : List ℕ × List ℕ) → T (is_sorted text_cmp es) → es ≡ front ++ last ∷ [] → is_lt (text_cmp last.0 q) ≡ true → IsGapFor q es (length es)
gap_behind q es front last h is low = searched es h q (Err (length es)) (omega arith) (behind (λ e. text_cmp e.0 q) es front last is low)

-- a key that has a place is found
is_found : (q : List ℕ) (es : List (List ℕ × List ℕ)) (i : ℕ) → T (is_sorted text_cmp es) → IsAt q es i → is_some (find text_cmp q es) ≡ true
is_found q [] i h at = absurd (omega (arith, at.in_range))
is_found q (e ∷ es) i h at = ap is_some (find_at q (e ∷ es) i e h at)

-- whether the map has a key that has a place, and one that has a gap
pub has_at : (q : List ℕ) (es : List (List ℕ × List ℕ)) (i : ℕ) (m : FinMap {K = List ℕ} text_cmp (List ℕ)) → T (is_sorted text_cmp es) → from_sorted es ≡ m → IsAt q es i → contains_key m q ≡ true
has_at q es i m h is at = ap (λ n. contains_key n q) (sym is) ∙ ap is_some (get-from_sorted text_cmp es q h) ∙ is_found q es i h at

pub has_no_gap : (q : List ℕ) (es : List (List ℕ × List ℕ)) (i : ℕ) (m : FinMap {K = List ℕ} text_cmp (List ℕ)) → T (is_sorted text_cmp es) → from_sorted es ≡ m → IsGapFor q es i → contains_key m q ≡ false
has_no_gap q es i m h is gap = ap (λ n. contains_key n q) (sym is) ∙ ap is_some (get-from_sorted text_cmp es q h ∙ find_gap q es i gap)

-- the entries of a map are in order, and make the map again
pub in_order : (es : List (List ℕ × List ℕ)) (m : FinMap {K = List ℕ} text_cmp (List ℕ)) → es ≡ entries m → T (is_sorted text_cmp es)
in_order es m is = subst (λ l. T (is_sorted text_cmp l)) (sym is) (entries_sorted m)

pub made_again : (es : List (List ℕ × List ℕ)) (m : FinMap {K = List ℕ} text_cmp (List ℕ)) → es ≡ entries m → from_sorted {R = text_cmp} es ≡ m
made_again es m is = same_entries_map _ _ (entries-from_sorted text_cmp es (in_order es m is) ∙ is)
