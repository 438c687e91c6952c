-- Sections of marked texts: what is put or taken away under a mark is put into its section or taken out of it, and the
-- others stay.
use Rattle.std.proofs.Common.{◌≡◌, ℕ, Bool, true, false, cond, List, [], ◌∷◌, Some, None, Option, arith, map as each, refl, sym, ap, ◌∙◌, subst}
use Rattle.std.specs.Prelude.{T, is_some, ◌==◌, ◌&&◌}
use Rattle.std.specs.List.{filter}
use Rattle.std.specs.declared.cmp.Ordering.{Ordering}
use Rattle.std.specs.declared.cmp.Ordering.TheVariants.{Less, Equal, Greater}
use Rattle.std.specs.Ordering.{eq_by_cmp, is_eq, is_lt, ordering_then, nat_cmp}
use Rattle.std.specs.Cmp.{unsigned_tied}
use Rattle.std.specs.Cmp.Lexicographic.{nat_list_cmp_total}
use Rattle.std.proofs.lemmas.Bool.Decides.{nat_tests}
use Rattle.std.specs.FinMap.{get, insert, contains_key, empty, entries, keys, remove, find, is_sorted, from_entries, entries_sorted, same_map, contains_key-keys, get-empty, get-entries, get-from_entries, get-insert, get-remove}
use Rattle.std.specs.FinMap.Entries.{below_all, is_sorted-where_key}
use Rattle.dc_text.specs.Maps.{Texts, set_of, text_cmp}
use Rattle.dc_text.proofs.MapLemmas.{exact_texts, get-set_of, entries-in_order}
use Rattle.dc_item.specs.Sections.{has_mark, unmarked, under, keys_under, section, members}

abbrev Entries : Type 0
Entries = List (List ℕ × List ℕ)

-- ---- keys behind a mark

same_mark : (a b : ℕ) → (a == b) ≡ (b == a)
same_mark a b = grind (arith, nat_tests)

pub itself : (a : ℕ) → (a == a) ≡ true
itself a = grind (arith, nat_tests)

tied_then : (o p : Ordering) → is_eq (ordering_then o p) ≡ (is_eq o && is_eq p)
tied_then Less p = refl
tied_then Equal p = refl
tied_then Greater p = refl

-- two keys behind marks are one where the marks and what follows are
tied_marked : (a b : ℕ) (q k : List ℕ) → eq_by_cmp text_cmp (a ∷ q) (b ∷ k) ≡ ((b == a) && eq_by_cmp text_cmp q k)
tied_marked a b q k = tied_then (nat_cmp a b) (text_cmp q k) ∙ ap (λ t. t && eq_by_cmp text_cmp q k) (unsigned_tied a b ∙ same_mark a b)

-- ---- what is found in a section

find-under : (mark : ℕ) (q : List ℕ) (es : Entries) → find text_cmp q (under mark es) ≡ find text_cmp (mark ∷ q) es
find-under mark q [] = refl
find-under mark q (([], v) ∷ es) = find-under mark q es
find-under mark q ((b ∷ k, v) ∷ es) =
    elim (b == mark) as (λ t. find text_cmp q (each (λ (e : List ℕ × List ℕ). (unmarked e.0, e.1)) (cond t ((b ∷ k, v) ∷ filter (λ e. has_mark mark e.0) es) (filter (λ e. has_mark mark e.0) es)))
    ≡ cond (t && eq_by_cmp text_cmp q k) (Some v) (find text_cmp (mark ∷ q) es)) [
      | true ↦ ap (cond (eq_by_cmp text_cmp q k) (Some v)) (find-under mark q es)
      | false ↦ find-under mark q es
    ] ∙ ap (λ t. cond t (Some v) (find text_cmp (mark ∷ q) es)) (sym (tied_marked mark b q k))

pub get-section : (mark : ℕ) (m : Texts (List ℕ)) (q : List ℕ) → get (section mark m) q ≡ get m (mark ∷ q)
unfolding section
get-section mark m q = get-from_entries nat_list_cmp_total (under mark (entries m)) q ∙ find-under mark q (entries m) ∙ sym (get-entries m (mark ∷ q))

-- ---- an entry that is put

pub section-insert : (mark : ℕ) (m : Texts (List ℕ)) (k v : List ℕ) → section mark (insert m (mark ∷ k) v) ≡ insert (section mark m) k v
section-insert mark m k v = same_map nat_list_cmp_total exact_texts _ _ (λ q.
    get-section mark (insert m (mark ∷ k) v) q ∙ get-insert nat_list_cmp_total m (mark ∷ k) v (mark ∷ q)
    ∙ (λ i. cond ((tied_marked mark mark q k ∙ ap (λ t. t && eq_by_cmp text_cmp q k) (itself mark)) i) (Some v) (sym (get-section mark m q) i))
    ∙ sym (get-insert nat_list_cmp_total (section mark m) k v q))

pub section-insert-other : (mark other : ℕ) (m : Texts (List ℕ)) (k v : List ℕ) → (other == mark) ≡ false → section mark (insert m (other ∷ k) v) ≡ section mark m
section-insert-other mark other m k v apart = same_map nat_list_cmp_total exact_texts _ _ (λ q.
    get-section mark (insert m (other ∷ k) v) q ∙ get-insert nat_list_cmp_total m (other ∷ k) v (mark ∷ q)
    ∙ (λ i. cond ((tied_marked mark other q k ∙ ap (λ t. t && eq_by_cmp text_cmp q k) apart) i) (Some v) (sym (get-section mark m q) i)))

-- ---- an entry that is taken away

pub section-remove : (mark : ℕ) (m : Texts (List ℕ)) (k : List ℕ) → section mark (remove m (mark ∷ k)) ≡ remove (section mark m) k
section-remove mark m k = same_map nat_list_cmp_total exact_texts _ _ (λ q.
    get-section mark (remove m (mark ∷ k)) q ∙ get-remove nat_list_cmp_total m (mark ∷ k) (mark ∷ q)
    ∙ (λ i. cond ((tied_marked mark mark q k ∙ ap (λ t. t && eq_by_cmp text_cmp q k) (itself mark)) i) None (sym (get-section mark m q) i))
    ∙ sym (get-remove nat_list_cmp_total (section mark m) k q))

pub section-remove-other : (mark other : ℕ) (m : Texts (List ℕ)) (k : List ℕ) → (other == mark) ≡ false → section mark (remove m (other ∷ k)) ≡ section mark m
section-remove-other mark other m k apart = same_map nat_list_cmp_total exact_texts _ _ (λ q.
    get-section mark (remove m (other ∷ k)) q ∙ get-remove nat_list_cmp_total m (other ∷ k) (mark ∷ q)
    ∙ (λ i. cond ((tied_marked mark other q k ∙ ap (λ t. t && eq_by_cmp text_cmp q k) apart) i) None (sym (get-section mark m q) i)))

-- ---- the set of a section's keys

abbrev here : Option (Unit {0})
here = Some tt

is_some_here : (b : Bool) → is_some (cond b here None) ≡ b
is_some_here true = refl
is_some_here false = refl

-- the set of a map's keys has what the map has
get-keys : (m : Texts (List ℕ)) (q : List ℕ) → get (set_of (keys m)) q ≡ cond (contains_key m q) here None
get-keys m q = get-set_of (keys m) q ∙ ap (λ b. cond b here None) (sym (contains_key-keys m q))

pub get-members : (mark : ℕ) (m : Texts (List ℕ)) (q : List ℕ) → get (members mark m) q ≡ cond (contains_key m (mark ∷ q)) here None
get-members mark m q = get-keys (section mark m) q ∙ ap (λ o. cond (is_some o) here None) (get-section mark m q)

pub contains_key-members : (mark : ℕ) (m : Texts (List ℕ)) (q : List ℕ) → contains_key (members mark m) q ≡ contains_key m (mark ∷ q)
contains_key-members mark m q = ap is_some (get-members mark m q) ∙ is_some_here (contains_key m (mark ∷ q))

put_here : (b : Bool) (v : List ℕ) (o : Option (List ℕ)) → ◌≡◌ {A = Option (Unit {0})} (cond (is_some (cond b (Some v) o)) here None) (cond b here (cond (is_some o) here None))
put_here true v o = refl
put_here false v o = refl

taken_here : (b : Bool) (o : Option (List ℕ)) → ◌≡◌ {A = Option (Unit {0})} (cond (is_some (cond b None o)) here None) (cond b None (cond (is_some o) here None))
taken_here true o = refl
taken_here false o = refl

keys-insert : (m : Texts (List ℕ)) (k v : List ℕ) → set_of (keys (insert m k v)) ≡ insert (set_of (keys m)) k tt
keys-insert m k v = same_map nat_list_cmp_total exact_texts _ _ (λ q.
    get-keys (insert m k v) q ∙ ap (λ o. cond (is_some o) here None) (get-insert nat_list_cmp_total m k v q) ∙ put_here (eq_by_cmp text_cmp q k) v (get m q)
    ∙ ap (cond (eq_by_cmp text_cmp q k) here) (sym (get-keys m q)) ∙ sym (get-insert nat_list_cmp_total (set_of (keys m)) k tt q))

keys-remove : (m : Texts (List ℕ)) (k : List ℕ) → set_of (keys (remove m k)) ≡ remove (set_of (keys m)) k
keys-remove m k = same_map nat_list_cmp_total exact_texts _ _ (λ q.
    get-keys (remove m k) q ∙ ap (λ o. cond (is_some o) here None) (get-remove nat_list_cmp_total m k q) ∙ taken_here (eq_by_cmp text_cmp q k) (get m q)
    ∙ ap (cond (eq_by_cmp text_cmp q k) None) (sym (get-keys m q)) ∙ sym (get-remove nat_list_cmp_total (set_of (keys m)) k q))

pub members-insert : (mark : ℕ) (m : Texts (List ℕ)) (k v : List ℕ) → members mark (insert m (mark ∷ k) v) ≡ insert (members mark m) k tt
members-insert mark m k v = ap (λ s. set_of (keys s)) (section-insert mark m k v) ∙ keys-insert (section mark m) k v

pub members-insert-other : (mark other : ℕ) (m : Texts (List ℕ)) (k v : List ℕ) → (other == mark) ≡ false → members mark (insert m (other ∷ k) v) ≡ members mark m
members-insert-other mark other m k v apart = ap (λ s. set_of (keys s)) (section-insert-other mark other m k v apart)

pub members-remove : (mark : ℕ) (m : Texts (List ℕ)) (k : List ℕ) → members mark (remove m (mark ∷ k)) ≡ remove (members mark m) k
members-remove mark m k = ap (λ s. set_of (keys s)) (section-remove mark m k) ∙ keys-remove (section mark m) k

pub members-remove-other : (mark other : ℕ) (m : Texts (List ℕ)) (k : List ℕ) → (other == mark) ≡ false → members mark (remove m (other ∷ k)) ≡ members mark m
members-remove-other mark other m k apart = ap (λ s. set_of (keys s)) (section-remove-other mark other m k apart)

-- ---- where nothing stands

pub section-empty : (mark : ℕ) → section mark empty ≡ empty
section-empty mark = same_map nat_list_cmp_total exact_texts _ _ (λ q. get-section mark empty q ∙ get-empty text_cmp (mark ∷ q) ∙ sym (get-empty text_cmp q))

pub members-empty : (mark : ℕ) → members mark empty ≡ empty
members-empty mark = same_map nat_list_cmp_total exact_texts _ _ (λ q.
    get-members mark empty q ∙ ap (λ o. cond (is_some o) here None) (get-empty text_cmp (mark ∷ q)) ∙ sym (get-empty text_cmp q))

-- ---- the entries of a section, in order

both : (a b : Bool) → T a → T b → T (a && b)
both true b p q = q
both false b p q = p

halves : (a b : Bool) → T (a && b) → T a × T b
halves true b h = (tt, h)
halves false b h = absurd h

unmarked_below : (mark : ℕ) (k l : List ℕ) → has_mark mark k ≡ true → has_mark mark l ≡ true → text_cmp k l ≡ text_cmp (unmarked k) (unmarked l)
unmarked_below mark [] l h g = absurd (cc)
unmarked_below mark (a ∷ k) [] h g = absurd (cc)
unmarked_below mark (a ∷ k) (b ∷ l) h g =
    ap (λ o. ordering_then o (text_cmp k l)) (equal (nat_cmp a b) (unsigned_tied a b ∙ one a b mark h g)) where
      equal : (o : Ordering) → is_eq o ≡ true → o ≡ Equal
      equal Less e = absurd (cc)
      equal Equal e = refl
      equal Greater e = absurd (cc)

      one : (a b mark : ℕ) → (a == mark) ≡ true → (b == mark) ≡ true → (a == b) ≡ true
      one a b mark h g = grind (arith, nat_tests)

abbrev AllMarked : ℕ → Entries → Type 0
AllMarked mark [] = Unit {0}
AllMarked mark (e ∷ es) = (has_mark mark e.0 ≡ true) × AllMarked mark es

all_marked : (mark : ℕ) (es : Entries) → AllMarked mark (filter (λ e. has_mark mark e.0) es)
all_marked mark [] = tt
all_marked mark (e ∷ es) = elim (has_mark mark e.0) as (λ b. has_mark mark e.0 ≡ b → AllMarked mark (cond b (e ∷ filter (λ e. has_mark mark e.0) es) (filter (λ e. has_mark mark e.0) es))) [
  | true ↦ λ t. (t, all_marked mark es)
  | false ↦ λ t. all_marked mark es
] refl

abbrev bare : Entries → Entries
bare es = each (λ entry. (unmarked entry.0, entry.1)) es

below_bare : (mark : ℕ) (k : List ℕ) (es : Entries) → has_mark mark k ≡ true → AllMarked mark es → T (below_all text_cmp k es) → T (below_all text_cmp (unmarked k) (bare es))
below_bare mark k [] h all below = tt
below_bare mark k (e ∷ es) h all below =
    let parts : T (is_lt (text_cmp k e.0)) × T (below_all text_cmp k es) = halves _ _ below in
    both _ _ (subst (λ o. T (is_lt o)) (unmarked_below mark k e.0 h all.0) parts.0) (below_bare mark k es h all.1 parts.1)

sorted_bare : (mark : ℕ) (es : Entries) → AllMarked mark es → T (is_sorted text_cmp es) → T (is_sorted text_cmp (bare es))
sorted_bare mark [] all sorted = tt
sorted_bare mark (e ∷ es) all sorted =
    let parts : T (below_all text_cmp e.0 es) × T (is_sorted text_cmp es) = halves _ _ sorted in
    both _ _ (below_bare mark e.0 es all.0 all.1 parts.0) (sorted_bare mark es all.1 parts.1)

-- they are the entries with the mark, in order, the mark taken off
pub entries-section : (mark : ℕ) (m : Texts (List ℕ)) → entries (section mark m) ≡ under mark (entries m)
unfolding section
entries-section mark m = entries-in_order (under mark (entries m))
    (sorted_bare mark (filter (λ e. has_mark mark e.0) (entries m)) (all_marked mark (entries m)) (is_sorted-where_key text_cmp (has_mark mark) (entries m) (entries_sorted m)))

-- ---- the keys of a section, in order

abbrev members_of : Entries → List (List ℕ × Unit {0})
members_of es = each (λ e. (e.0, tt)) es

set_of-firsts : (es : Entries) → set_of (each (λ e. e.0) es) ≡ from_entries (members_of es)
set_of-firsts [] = refl
set_of-firsts (e ∷ es) = ap (λ s. insert s e.0 tt) (set_of-firsts es)

below_members : (k : List ℕ) (es : Entries) → below_all text_cmp k (members_of es) ≡ below_all text_cmp k es
below_members k [] = refl
below_members k (e ∷ es) = ap (λ b. is_lt (text_cmp k e.0) && b) (below_members k es)

sorted_members : (es : Entries) → is_sorted text_cmp (members_of es) ≡ is_sorted text_cmp es
sorted_members [] = refl
sorted_members (e ∷ es) = λ i. below_members e.0 es i && sorted_members es i

firsts_members : (es : Entries) → each (λ e. e.0) (members_of es) ≡ each (λ (e : List ℕ × List ℕ). e.0) es
firsts_members [] = refl
firsts_members (e ∷ es) = ap (λ l. e.0 ∷ l) (firsts_members es)

-- the keys of the set of a map's keys
keys-set_of-keys : (m : Texts (List ℕ)) → keys (set_of (keys m)) ≡ keys m
keys-set_of-keys m =
    ap keys (set_of-firsts (entries m)) ∙ ap (each (λ (e : List ℕ × Unit {0}). e.0)) (entries-in_order (members_of (entries m)) (subst T (sym (sorted_members (entries m))) (entries_sorted m)))
    ∙ firsts_members (entries m)

pub keys-members : (mark : ℕ) (m : Texts (List ℕ)) → keys (members mark m) ≡ keys_under mark (entries m)
keys-members mark m = keys-set_of-keys (section mark m) ∙ ap (each (λ (e : List ℕ × List ℕ). e.0)) (entries-section mark m)
