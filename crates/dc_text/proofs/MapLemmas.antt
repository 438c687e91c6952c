-- A map of the library's, whose keys are seen as texts, as a finite map from texts.
use Rattle.std.proofs.Common.{◌≡◌, ℕ, Bool, true, false, cond, List, [], ◌∷◌, ◌++◌, Some, None, Option, refl, sym, ap, ◌∙◌, subst, append_assoc}
use Rattle.std.specs.Prelude.{◌||◌, ◌&&◌, T, is_some, map}
use Rattle.std.specs.List.{list_any, AllByRecursion}
use Rattle.std.specs.List.Sorted.{IsStrictlySortedBy}
use Rattle.std.specs.declared.cmp.Ordering.{Ordering}
use Rattle.std.specs.declared.cmp.Ordering.TheVariants.{Less, Equal, Greater}
use Rattle.std.specs.Ordering.{eq_by_cmp, is_eq, is_lt, match_ordering, ordering_reverse}
use Rattle.std.specs.Cmp.Lexicographic.{nat_list_cmp_total}
use Rattle.std.specs.BTreeMap.{is_at, insert_entry}
use Rattle.std.specs.Map.{lookup, remove_entry, set_value}
use Rattle.std.specs.FinMap.{FinMap, get, insert, remove, entries, from_entries, from_sorted, find, put, is_sorted, entries_sorted, entries-insert, entries-from_sorted, get-from_sorted, get-entries, get-from_entries, get-insert, get-remove, get-empty, same_map, IsAntisymmetric, slice_cmp-IsAntisymmetric, nat_cmp-IsAntisymmetric}
use Rattle.std.specs.FinMap.Entries.{by_order, below_all, find-put}
use Rattle.dc_text.specs.Maps.{text_cmp, set_of}

pub exact_texts : IsAntisymmetric {K = List ℕ} text_cmp
exact_texts = slice_cmp-IsAntisymmetric nat_cmp-IsAntisymmetric

both : (a b : Bool) → T a → T b → T (a && b)
both true b p q = q
both false b p q = p

-- ---- keys seen as texts

module _ {Y X : Type 0} (f : Y → List ℕ) where
  abbrev pub seen : List (Y × X) → List (List ℕ × X)
  seen es = map (λ e. (f e.0, e.1)) es

  pub find-seen : (es : List (Y × X)) (q : List ℕ) → lookup (is_at (λ y. text_cmp q (f y))) es ≡ find text_cmp q (seen es)
  find-seen [] q = refl
  find-seen (e ∷ es) q = ap (cond (eq_by_cmp text_cmp q (f e.0)) (Some e.1)) (find-seen es q)

  seen-match : (o : Ordering) (a b c : List (Y × X)) → seen (match_ordering o a b c) ≡ by_order o (seen a) (seen b) (seen c)
  seen-match Less a b c = refl
  seen-match Equal a b c = refl
  seen-match Greater a b c = refl

  seen-insert : (es : List (Y × X)) (k : Y) (v : X) → seen (insert_entry (λ a b. text_cmp (f a) (f b)) es k v) ≡ put text_cmp (f k) v (seen es)
  seen-insert [] k v = refl
  seen-insert (e ∷ es) k v = seen-match (text_cmp (f k) (f e.0)) _ _ _
      ∙ ap (λ l. by_order (text_cmp (f k) (f e.0)) ((f k, v) ∷ (f e.0, e.1) ∷ seen es) ((f e.0, v) ∷ seen es) ((f e.0, e.1) ∷ l)) (seen-insert es k v)

  -- to insert an entry is to insert it in the finite map
  pub map-insert : (es fs : List (Y × X)) (k : Y) (v : X) → fs ≡ insert_entry (λ a b. text_cmp (f a) (f b)) es k v → from_entries {R = text_cmp} (seen fs) ≡ insert (from_entries (seen es)) (f k) v
  map-insert es fs k v is = same_map nat_list_cmp_total exact_texts _ _ (λ q.
      get-from_entries nat_list_cmp_total (seen fs) q ∙ ap (find text_cmp q) (ap seen is ∙ seen-insert es k v) ∙ find-put text_cmp nat_list_cmp_total q (f k) v (seen es)
      ∙ sym (get-insert nat_list_cmp_total (from_entries (seen es)) (f k) v q ∙ ap (cond (eq_by_cmp text_cmp q (f k)) (Some v)) (get-from_entries nat_list_cmp_total (seen es) q)))

  -- ---- the keys in order

  below : (k : Y) (es : List (Y × X)) → AllByRecursion (λ y. text_cmp (f k) (f y) ≡ Less) (map (λ (e : Y × X). e.0) es) → T (below_all text_cmp (f k) (seen es))
  below k [] h = tt
  below k (e ∷ es) h = both _ _ (subst (λ o. T (is_lt o)) (sym h.0) tt) (below k es h.1)

  pub rises : (es : List (Y × X)) → IsStrictlySortedBy (λ a b. text_cmp (f a) (f b)) (map (λ (e : Y × X). e.0) es) → T (is_sorted text_cmp (seen es))
  unfolding IsStrictlySortedBy
  rises [] h = tt
  rises (e ∷ es) h = both _ _ (below e.0 es h.0) (rises es h.1)

-- a list in order is the entries of its map
pub entries-in_order : {X : Type 0} (es : List (List ℕ × X)) → T (is_sorted text_cmp es) → entries (from_entries {R = text_cmp} es) ≡ es
entries-in_order es h =
    ap entries (same_map nat_list_cmp_total exact_texts (from_entries es) (from_sorted es) (λ q. get-from_entries nat_list_cmp_total es q ∙ sym (get-from_sorted text_cmp es q h)))
    ∙ entries-from_sorted text_cmp es h

-- a map is that of its entries
pub from_entries-entries : {X : Type 0} (m : FinMap {K = List ℕ} text_cmp X) → from_entries (entries m) ≡ m
from_entries-entries m = same_map nat_list_cmp_total exact_texts (from_entries (entries m)) m (λ q. get-from_entries nat_list_cmp_total (entries m) q ∙ sym (get-entries m q))

-- ---- an entry taken away

is_equal : (o : Ordering) → is_eq o ≡ true → o ≡ Equal
is_equal Less e = absurd (cc)
is_equal Equal e = refl
is_equal Greater e = absurd (cc)

-- other keys keep theirs
others : {Y X : Type 0} (f : Y → List ℕ) (k q : List ℕ) → eq_by_cmp text_cmp q k ≡ false → (es : List (Y × X)) → find text_cmp q (seen f (remove_entry (is_at (λ y. text_cmp k (f y))) es)) ≡ find text_cmp q (seen f es)
others f k q other [] = refl
others f k q other (e ∷ es) = elim (eq_by_cmp text_cmp k (f e.0)) as (λ b. eq_by_cmp text_cmp k (f e.0) ≡ b
    → find text_cmp q (seen f (cond b es (e ∷ remove_entry (is_at (λ y. text_cmp k (f y))) es))) ≡ cond (eq_by_cmp text_cmp q (f e.0)) (Some e.1) (find text_cmp q (seen f es))) [
      | true ↦ λ t.
          let same : k ≡ f e.0 = exact_texts k (f e.0) (is_equal _ t) in
          sym (ap (λ b. cond b (Some e.1) (find text_cmp q (seen f es))) (ap (eq_by_cmp text_cmp q) (sym same) ∙ other))
      | false ↦ λ t. ap (cond (eq_by_cmp text_cmp q (f e.0)) (Some e.1)) (others f k q other es)
    ] refl

-- to take an entry away is to take it out of the finite map
pub map-remove : {Y X : Type 0} (f : Y → List ℕ) (es fs : List (Y × X)) (k : List ℕ) → fs ≡ remove_entry (is_at (λ y. text_cmp k (f y))) es → lookup (is_at (λ y. text_cmp k (f y))) fs ≡ None
    → from_entries {R = text_cmp} (seen f fs) ≡ remove (from_entries (seen f es)) k
map-remove f es fs k is gone = same_map nat_list_cmp_total exact_texts _ _ (λ q.
    get-from_entries nat_list_cmp_total (seen f fs) q
    ∙ elim (eq_by_cmp text_cmp q k) as (λ b. eq_by_cmp text_cmp q k ≡ b → find text_cmp q (seen f fs) ≡ cond b None (find text_cmp q (seen f es))) [
      | true ↦ λ t. ap (λ p. find text_cmp p (seen f fs)) (exact_texts q k (is_equal _ t)) ∙ sym (find-seen f fs k) ∙ gone
      | false ↦ λ t. ap (λ l. find text_cmp q (seen f l)) is ∙ others f k q t es
    ] refl
    ∙ ap (cond (eq_by_cmp text_cmp q k) None) (sym (get-from_entries nat_list_cmp_total (seen f es) q))
    ∙ sym (get-remove nat_list_cmp_total (from_entries (seen f es)) k q))

-- ---- a value written over

twice : {A : Type 0} (b : Bool) (x y z : A) → cond b x z ≡ cond b x (cond b y z)
twice true x y z = refl
twice false x y z = refl

find-set_value : {Y X : Type 0} (f : Y → List ℕ) (k q : List ℕ) (v : X) (es : List (Y × X)) → is_some (find text_cmp k (seen f es)) ≡ true
    → find text_cmp q (seen f (set_value (is_at (λ y. text_cmp k (f y))) es v)) ≡ cond (eq_by_cmp text_cmp q k) (Some v) (find text_cmp q (seen f es))
find-set_value f k q v [] there = absurd (cc)
find-set_value {X = X} f k q v (e ∷ es) there = elim (eq_by_cmp text_cmp k (f e.0)) as (λ b. eq_by_cmp text_cmp k (f e.0) ≡ b → is_some (cond b (Some e.1) (find text_cmp k (seen f es))) ≡ true
    → find text_cmp q (seen f (cond b ((e.0, v) ∷ es) (e ∷ set_value (is_at (λ y. text_cmp k (f y))) es v)))
    ≡ cond (eq_by_cmp text_cmp q k) (Some v) (cond (eq_by_cmp text_cmp q (f e.0)) (Some e.1) (find text_cmp q (seen f es)))) [
      | true ↦ λ t h.
          let same : k ≡ f e.0 = exact_texts k (f e.0) (is_equal _ t) in
          twice (eq_by_cmp text_cmp q (f e.0)) (Some v) (Some e.1) (find text_cmp q (seen f es))
          ∙ ap (λ x. cond (eq_by_cmp text_cmp q x) (Some v) (cond (eq_by_cmp text_cmp q (f e.0)) (Some e.1) (find text_cmp q (seen f es)))) (sym same)
      | false ↦ λ t h.
          let rest : Option X = find text_cmp q (seen f es) in
          ap (cond (eq_by_cmp text_cmp q (f e.0)) (Some e.1)) (find-set_value f k q v es h)
          ∙ elim (eq_by_cmp text_cmp q k) as (λ b. eq_by_cmp text_cmp q k ≡ b → cond (eq_by_cmp text_cmp q (f e.0)) (Some e.1) (cond b (Some v) rest) ≡ cond b (Some v) (cond (eq_by_cmp text_cmp q (f e.0)) (Some e.1) rest)) [
            | true ↦ λ u. ap (λ c. cond c (Some e.1) (Some v)) (ap (λ p. eq_by_cmp text_cmp p (f e.0)) (exact_texts q k (is_equal _ u)) ∙ t)
            | false ↦ λ u. refl
          ] refl
    ] refl there

-- to write over the value at a key that is there is to insert it in the finite map
pub map-set_value : {Y X : Type 0} (f : Y → List ℕ) (es fs : List (Y × X)) (k : List ℕ) (v : X) → fs ≡ set_value (is_at (λ y. text_cmp k (f y))) es v → is_some (get (from_entries {R = text_cmp} (seen f es)) k) ≡ true
    → from_entries {R = text_cmp} (seen f fs) ≡ insert (from_entries (seen f es)) k v
map-set_value f es fs k v is there = same_map nat_list_cmp_total exact_texts _ _ (λ q.
    get-from_entries nat_list_cmp_total (seen f fs) q
    ∙ ap (λ l. find text_cmp q (seen f l)) is ∙ find-set_value f k q v es (ap is_some (sym (get-from_entries nat_list_cmp_total (seen f es) k)) ∙ there)
    ∙ sym (get-insert nat_list_cmp_total (from_entries (seen f es)) k v q ∙ ap (cond (eq_by_cmp text_cmp q k) (Some v)) (get-from_entries nat_list_cmp_total (seen f es) q)))

-- ---- sets

abbrev here : Option (Unit {0})
here = Some tt

one_or : (a b : Bool) → ◌≡◌ {A = Option (Unit {0})} (cond a here (cond b here None)) (cond (a || b) here None)
one_or true b = refl
one_or false b = refl

or_last : (a b c : Bool) → (a || (b || c)) ≡ (b || (a || c))
or_last true true c = refl
or_last true false c = refl
or_last false b c = refl

any_push : {X : Type 0} (p : X → Bool) (xs : List X) (x : X) → list_any p (xs ++ x ∷ []) ≡ (p x || list_any p xs)
any_push p [] x = refl
any_push p (y ∷ xs) x = ap (λ b. p y || b) (any_push p xs x) ∙ or_last (p y) (p x) (list_any p xs)

-- what a set has
pub get-set_of : (ts : List (List ℕ)) (q : List ℕ) → get (set_of ts) q ≡ cond (list_any (eq_by_cmp text_cmp q) ts) here None
get-set_of [] q = get-empty text_cmp q
get-set_of (t ∷ ts) q = get-insert nat_list_cmp_total (set_of ts) t tt q ∙ ap (cond (eq_by_cmp text_cmp q t) here) (get-set_of ts q)
    ∙ one_or (eq_by_cmp text_cmp q t) (list_any (eq_by_cmp text_cmp q) ts)

-- to add a text at the end is to insert it
pub set_of-push : (ts : List (List ℕ)) (t : List ℕ) → set_of (ts ++ t ∷ []) ≡ insert (set_of ts) t tt
set_of-push ts t = same_map nat_list_cmp_total exact_texts _ _ (λ q.
    let R : List ℕ → List ℕ → Bool = eq_by_cmp text_cmp in
    get-set_of (ts ++ t ∷ []) q ∙ ap (λ b. cond b here None) (any_push (R q) ts t) ∙ sym (one_or (R q t) (list_any (R q) ts))
    ∙ sym (get-insert nat_list_cmp_total (set_of ts) t tt q ∙ ap (cond (R q t) here) (get-set_of ts q)))

-- ---- a map filled in order

first : (a b : Bool) → T (a && b) → T a
first true b p = tt
first false b p = p

second : (a b : Bool) → T (a && b) → T b
second true b p = p
second false b p = absurd p

less : (o : Ordering) → T (is_lt o) → o ≡ Less
less Less p = refl
less Equal p = absurd p
less Greater p = absurd p

below_in : {X : Type 0} (j : List ℕ) (xs ys : List (List ℕ × X)) (k : List ℕ) (v : X) → T (below_all text_cmp j (xs ++ (k, v) ∷ ys)) → text_cmp j k ≡ Less
below_in j [] ys k v h = less _ (first _ _ h)
below_in j (x ∷ xs) ys k v h = below_in j xs ys k v (second _ _ h)

-- an entry whose key is above all is put last
pub put-last : {X : Type 0} (xs ys : List (List ℕ × X)) (k : List ℕ) (v : X) → T (is_sorted text_cmp (xs ++ (k, v) ∷ ys)) → put text_cmp k v xs ≡ xs ++ (k, v) ∷ []
put-last [] ys k v h = refl
put-last (x ∷ xs) ys k v h =
    ap (λ o. by_order o ((k, v) ∷ x ∷ xs) ((x.0, v) ∷ xs) (x ∷ put text_cmp k v xs)) (nat_list_cmp_total.antisymm k x.0 ∙ ap ordering_reverse (below_in x.0 xs ys k v (first _ _ h)))
    ∙ ap (λ l. x ∷ l) (put-last xs ys k v (second _ _ h))

-- the entries of a map and those that come, when the first of them is inserted
pub entries-filled : {X : Type 0} (m n : FinMap {K = List ℕ} text_cmp X) (rest : List (List ℕ × X)) (k : List ℕ) (v : X) → entries m ++ (k, v) ∷ rest ≡ entries n → entries (insert m k v) ++ rest ≡ entries n
entries-filled m n rest k v is =
    ap (λ es. es ++ rest) (entries-insert nat_list_cmp_total m k v ∙ put-last (entries m) rest k v (subst (λ es. T (is_sorted text_cmp es)) (sym is) (entries_sorted n)))
    ∙ append_assoc (entries m) ((k, v) ∷ []) rest ∙ is
