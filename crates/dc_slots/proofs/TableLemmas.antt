-- What a slot table shows of its parts, and what becomes of it where they change.
use Rattle.std.proofs.Common.{◌≡◌, ◌≢◌, ℕ, ◌+◌, ◌<◌, Bool, true, false, cond, List, [], ◌∷◌, map as each, Option, Some, None, option_map, unwrap_or, refl, sym, ap, ◌∙◌, subst, inl, inr, arith}
use Rattle.std.specs.Prelude.{◌&&◌, T}
use Rattle.std.specs.declared.cmp.Ordering.{Ordering}
use Rattle.std.specs.declared.cmp.Ordering.TheVariants.{Less, Equal, Greater}
use Rattle.std.specs.Ordering.{eq_by_cmp, is_eq, is_lt}
use Rattle.std.specs.Cmp.{eq_by_cmp_equiv}
use Rattle.std.specs.Cmp.Lexicographic.{nat_list_cmp_total}
use Rattle.std.specs.FinMap.{get, insert, remove, entries, entries_sorted, entries-insert, get-empty, get-entries, get-insert, get-remove, find, put, is_sorted}
use Rattle.std.specs.FinMap.Entries.{below_all, by_order, is_sorted-put}
use Rattle.dc_text.specs.Maps.{Texts, text_cmp}
use Rattle.dc_text.proofs.MapLemmas.{exact_texts}
use Rattle.dc_slots.specs.Chains.{has}
use Rattle.dc_slots.specs.Slots.{list_of, with_at, if_any}
use Rattle.dc_slots.specs.Parts.{values_of, lists_of, one_if, count_in}
use Rattle.dc_slots.proofs.KeyLemmas.{cases_key, remove-here, remove-other, is_insert, is_remove}

-- ---- lists of entries

get-with : {X : Type 0} (m : Texts X) (k : List ℕ) (o : Option X) (q : List ℕ) → get (with_at m k o) q ≡ cond (eq_by_cmp text_cmp q k) o (get m q)
get-with m k None q = get-remove nat_list_cmp_total m k q
get-with m k (Some x) q = get-insert nat_list_cmp_total m k x q

abbrev pub at_number : {X : Type 0} → (ℕ → Option X) → Option ℕ → Option X
at_number value None = None
at_number value (Some n) = value n

module _ {X : Type 0} (value : ℕ → Option X) where
  pub get-listed : (es : List (List ℕ × ℕ)) (q : List ℕ) → get (values_of value es) q ≡ at_number value (find text_cmp q es)
  get-listed [] q = get-empty text_cmp q
  get-listed (e ∷ es) q =
      get-with (values_of value es) e.0 (value e.1) q
      ∙ elim (eq_by_cmp text_cmp q e.0) as (λ b. cond b (value e.1) (get (values_of value es) q) ≡ at_number value (cond b (Some e.1) (find text_cmp q es))) [ true ↦ refl | false ↦ get-listed es q ]

  pub get-values : (places : Texts ℕ) (q : List ℕ) → get (values_of value (entries places)) q ≡ at_number value (get places q)
  get-values places q = get-listed (entries places) q ∙ ap (at_number value) (sym (get-entries places q))

module _ (name : ℕ → List ℕ) where
  lists-listed : (es : List (List ℕ × List ℕ)) (q : List ℕ) → get (lists_of name es) q ≡ option_map (each name) (find text_cmp q es)
  lists-listed [] q = get-empty text_cmp q
  lists-listed (e ∷ es) q =
      get-insert nat_list_cmp_total (lists_of name es) e.0 (each name e.1) q
      ∙ elim (eq_by_cmp text_cmp q e.0) as (λ b. cond b (Some (each name e.1)) (get (lists_of name es) q) ≡ option_map (each name) (cond b (Some e.1) (find text_cmp q es))) [ true ↦ refl | false ↦ lists-listed es q ]

  pub get-lists : (lists : Texts (List ℕ)) (q : List ℕ) → get (lists_of name (entries lists)) q ≡ option_map (each name) (get lists q)
  get-lists lists q = lists-listed (entries lists) q ∙ ap (option_map (each name)) (sym (get-entries lists q))

  listed_each : (o : Option (List ℕ)) → unwrap_or (option_map (each name) o) [] ≡ each name (unwrap_or o [])
  listed_each None = refl
  listed_each (Some ns) = refl

  pub list_of-lists : (lists : Texts (List ℕ)) (q : List ℕ) → list_of (lists_of name (entries lists)) q ≡ each name (list_of lists q)
  list_of-lists lists q = ap (λ o. unwrap_or o []) (get-lists lists q) ∙ listed_each (get lists q)

-- ---- how many lists have a number

pub first_half : (a b : Bool) → T (a && b) → T a
first_half true b p = tt
first_half false b p = p

pub second_half : (a b : Bool) → T (a && b) → T b
second_half true b p = p
second_half false b p = absurd p

not_equal : (o : Ordering) → T (is_lt o) → is_eq o ≡ false
not_equal Less p = refl
not_equal Equal p = absurd p
not_equal Greater p = absurd p

pub none_below : {X : Type 0} (k : List ℕ) (es : List (List ℕ × X)) → T (below_all text_cmp k es) → find text_cmp k es ≡ None
none_below k [] below = refl
none_below k (e ∷ es) below =
    ap (λ b. cond b (Some e.1) (find text_cmp k es)) (not_equal (text_cmp k e.0) (first_half _ _ below)) ∙ none_below k es (second_half _ _ below)

abbrev listed : Option (List ℕ) → List ℕ
listed o = unwrap_or o []

count_put : (n : ℕ) (k : List ℕ) (v : List ℕ) (es : List (List ℕ × List ℕ)) → T (is_sorted text_cmp es)
    → count_in n (put text_cmp k v es) + one_if (has n (listed (find text_cmp k es))) ≡ count_in n es + one_if (has n v)
count_put n k v [] sorted = omega arith
count_put n k v (e ∷ es) sorted =
    elim (text_cmp k e.0) as (λ o. text_cmp k e.0 ≡ o → count_in n (by_order o ((k, v) ∷ e ∷ es) ((e.0, v) ∷ es) (e ∷ put text_cmp k v es)) + one_if (has n (listed (find text_cmp k (e ∷ es)))) ≡ count_in n (e ∷ es) + one_if (has n v)) [
      | Less ↦ λ is.
          let order : T (is_sorted text_cmp (by_order (text_cmp k e.0) ((k, v) ∷ e ∷ es) ((e.0, v) ∷ es) (e ∷ put text_cmp k v es))) = is_sorted-put text_cmp nat_list_cmp_total k v (e ∷ es) sorted in
          let front : T (is_sorted text_cmp ((k, v) ∷ e ∷ es)) = subst (λ o. T (is_sorted text_cmp (by_order o ((k, v) ∷ e ∷ es) ((e.0, v) ∷ es) (e ∷ put text_cmp k v es)))) is order in
          let none : one_if (has n (listed (find text_cmp k (e ∷ es)))) ≡ 0 = ap (λ o. one_if (has n (listed o))) (none_below k (e ∷ es) (first_half (below_all text_cmp k (e ∷ es)) (is_sorted text_cmp (e ∷ es)) front)) in
          omega (arith, none)
      | Equal ↦ λ is.
          let here : one_if (has n (listed (find text_cmp k (e ∷ es)))) ≡ one_if (has n e.1) = ap (λ o. one_if (has n (listed (cond (is_eq o) (Some e.1) (find text_cmp k es))))) is in
          omega (arith, here)
      | Greater ↦ λ is.
          let there : one_if (has n (listed (find text_cmp k (e ∷ es)))) ≡ one_if (has n (listed (find text_cmp k es))) = ap (λ o. one_if (has n (listed (cond (is_eq o) (Some e.1) (find text_cmp k es))))) is in
          let rest : count_in n (put text_cmp k v es) + one_if (has n (listed (find text_cmp k es))) ≡ count_in n es + one_if (has n v) = count_put n k v es (second_half _ _ sorted) in
          omega (arith, there, rest)
    ] refl

pub count_insert : (n : ℕ) (m : Texts (List ℕ)) (k : List ℕ) (v : List ℕ) → count_in n (entries (insert m k v)) + one_if (has n (list_of m k)) ≡ count_in n (entries m) + one_if (has n v)
count_insert n m k v =
    (λ i. count_in n (entries-insert nat_list_cmp_total m k v i) + one_if (has n (listed (get-entries m k i)))) ∙ count_put n k v (entries m) (entries_sorted m)

pub count_remove : (n : ℕ) (m : Texts (List ℕ)) (k : List ℕ) → count_in n (entries (remove m k)) + one_if (has n (list_of m k)) ≡ count_in n (entries m)
count_remove n m k = by (get m k) refl where
  by : (o : Option (List ℕ)) → get m k ≡ o → count_in n (entries (remove m k)) + one_if (has n (listed o)) ≡ count_in n (entries m)
  by None none =
      let same : count_in n (entries (remove m k)) ≡ count_in n (entries m) = ap (λ l. count_in n (entries l)) (sym (is_remove nat_list_cmp_total exact_texts m k m none (λ q _. refl))) in
      omega (arith, same)
  by (Some v) found =
      let again : m ≡ insert (remove m k) k v = is_insert nat_list_cmp_total exact_texts (remove m k) k m v found (λ q differ. sym (remove-other nat_list_cmp_total exact_texts m k q differ)) in
      let count : count_in n (entries m) ≡ count_in n (entries (insert (remove m k) k v)) = ap (λ l. count_in n (entries l)) again in
      let one : count_in n (entries (insert (remove m k) k v)) + one_if (has n (listed (get (remove m k) k))) ≡ count_in n (entries (remove m k)) + one_if (has n v) = count_insert n (remove m k) k v in
      let none : one_if (has n (listed (get (remove m k) k))) ≡ 0 = ap (λ o. one_if (has n (listed o))) (remove-here nat_list_cmp_total exact_texts m k) in
      omega (arith, count, one, none)

-- the count where an owner's list is another
pub count_with : (n : ℕ) (m : Texts (List ℕ)) (k : List ℕ) (ns : List ℕ) → count_in n (entries (with_at m k (if_any ns))) + one_if (has n (list_of m k)) ≡ count_in n (entries m) + one_if (has n ns)
count_with n m k [] = let one = count_remove n m k in omega (arith, one)
count_with n m k (x ∷ ns) = count_insert n m k (x ∷ ns)

-- a number that a list has is counted, and one that none has isn't
counted_find : (n : ℕ) (q : List ℕ) (es : List (List ℕ × List ℕ)) → has n (listed (find text_cmp q es)) ≡ true → 0 < count_in n es
counted_find n q [] there = absurd (cc)
counted_find n q (e ∷ es) there =
    elim (eq_by_cmp text_cmp q e.0) as (λ b. has n (listed (cond b (Some e.1) (find text_cmp q es))) ≡ true → 0 < one_if (has n e.1) + count_in n es) [
      | true ↦ λ here. let one : one_if (has n e.1) ≡ 1 = ap one_if here in omega (arith, one)
      | false ↦ λ later. let rest : 0 < count_in n es = counted_find n q es later in omega (arith, rest)
    ] there

pub listed_is_counted : (n : ℕ) (m : Texts (List ℕ)) (q : List ℕ) → has n (list_of m q) ≡ true → 0 < count_in n (entries m)
listed_is_counted n m q there = counted_find n q (entries m) (ap (λ o. has n (listed o)) (sym (get-entries m q)) ∙ there)

equal : (o : Ordering) → is_eq o ≡ true → o ≡ Equal
equal Less t = absurd (cc)
equal Equal t = refl
equal Greater t = absurd (cc)

pub differs : (q k : List ℕ) → q ≢ k → eq_by_cmp text_cmp q k ≡ false
differs q k differ = elim (eq_by_cmp text_cmp q k) as (λ b. eq_by_cmp text_cmp q k ≡ b → b ≡ false) [
  | true ↦ λ t. absurd (differ (exact_texts q k (equal (text_cmp q k) t)))
  | false ↦ λ t. refl
] refl

none_counted : (n : ℕ) (es : List (List ℕ × List ℕ)) → T (is_sorted text_cmp es) → ((q : List ℕ) → has n (listed (find text_cmp q es)) ≡ false) → count_in n es ≡ 0
none_counted n [] sorted none = refl
none_counted n (e ∷ es) sorted none =
    let itself : eq_by_cmp text_cmp e.0 e.0 ≡ true = (eq_by_cmp_equiv nat_list_cmp_total).refl e.0 in
    let here : has n e.1 ≡ false = sym (ap (λ b. has n (listed (cond b (Some e.1) (find text_cmp e.0 es)))) itself) ∙ none e.0 in
    let rest : count_in n es ≡ 0 = none_counted n es (second_half _ _ sorted) (λ q. elim (cases_key nat_list_cmp_total exact_texts q e.0) [
      | inl same ↦ ap (λ k. has n (listed (find text_cmp k es))) same ∙ ap (λ o. has n (listed o)) (none_below e.0 es (first_half _ _ sorted))
      | inr differ ↦ later q (differs q e.0 differ) (none q)
    ]) in
    let zero : one_if (has n e.1) ≡ 0 = ap one_if here in
    omega (arith, zero, rest) where
      later : (q : List ℕ) → eq_by_cmp text_cmp q e.0 ≡ false → has n (listed (find text_cmp q (e ∷ es))) ≡ false → has n (listed (find text_cmp q es)) ≡ false
      later q apart off = sym (ap (λ b. has n (listed (cond b (Some e.1) (find text_cmp q es)))) apart) ∙ off

pub unlisted_is_uncounted : (n : ℕ) (m : Texts (List ℕ)) → ((q : List ℕ) → has n (list_of m q) ≡ false) → count_in n (entries m) ≡ 0
unlisted_is_uncounted n m none = none_counted n (entries m) (entries_sorted m) (λ q. ap (λ o. has n (listed o)) (sym (get-entries m q)) ∙ none q)
