-- What an item keeps, when something is put into it, and owners in order.
use Rattle.std.proofs.Common.{◌≡◌, ℕ, ◌+◌, ◌<◌, ◌≤◌, arith, length, take, get_or, Bool, Bor, true, false, cond, List, [], ◌∷◌, ◌++◌, Some, None, Option, map as each, refl, sym, ap, ◌∙◌}
use Rattle.std.specs.Prelude.{is_some, IfSome, not, ◌&&◌, ◌||◌}
use Rattle.std.specs.Option.{option_copied}
use Rattle.std.specs.List.{filter, list_all, list_any}
use Rattle.std.proofs.lemmas.List.{take_more}
use Rattle.std.specs.declared.cmp.Ordering.{Ordering}
use Rattle.std.specs.declared.cmp.Ordering.TheVariants.{Less, Equal, Greater}
use Rattle.std.specs.Ordering.{eq_by_cmp, is_eq}
use Rattle.std.specs.Cmp.Lexicographic.{nat_list_cmp_total}
use Rattle.std.proofs.lemmas.Cmp.{tied_itself}
use Rattle.std.specs.FinMap.{get, insert, contains_key, empty, entries, keys, put, remove, retain_keys, from_entries, entries_sorted, same_map, contains_key-keys, get-empty, get-entries, get-from_entries, get-insert, get-remove, get-retain_keys, entries-insert}
use Rattle.std.specs.FinMap.Entries.{by_order, where_key, find-where_key, is_sorted-where_key}
use Rattle.dc_text.specs.Maps.{Texts, TextSet, set_of, text_cmp}
use Rattle.dc_text.specs.Names.{is_name, is_field_key, is_flag_name, is_variable_key}
use Rattle.dc_text.specs.Settled.{is_settled}
use Rattle.dc_text.proofs.MapLemmas.{exact_texts, get-set_of, set_of-push, entries-in_order, from_entries-entries}
use Rattle.dc_item.specs.After.{without, left_of}
use Rattle.dc_item.specs.Item.{IsItem, no_parts, selves}

is_equal : (o : Ordering) → is_eq o ≡ true → o ≡ Equal
is_equal Less e = absurd (cc)
is_equal Equal e = refl
is_equal Greater e = absurd (cc)

-- a key that ties with a text is the text
pub same_key : (q k : List ℕ) → eq_by_cmp text_cmp q k ≡ true → q ≡ k
same_key q k e = exact_texts q k (is_equal _ e)

-- ---- maps

-- each key passes, and each value
abbrev pub Keeps : (List ℕ → Bool) → (List ℕ → Bool) → Texts (List ℕ) → Type 0
Keeps p q m = (key value : List ℕ) → get m key ≡ Some value → (p key ≡ true) × (q value ≡ true)

-- a value that is found passes
pub found_passes : (p q : List ℕ → Bool) (m : Texts (List ℕ)) (key : List ℕ) (found : Option (Bor (List ℕ))) → option_copied found ≡ get m key → Keeps p q m → IfSome found (λ text. q text.now ≡ true)
found_passes p q m key None is keeps = tt
found_passes p q m key (Some text) is keeps = (keeps key text.now (sym is)).1

no_value : (key value : List ℕ) → get (empty {K = List ℕ} {X = List ℕ} {R = text_cmp}) key ≡ Some value → ⊥
no_value key value e = let n : get (empty {K = List ℕ} {X = List ℕ} {R = text_cmp}) key ≡ None = get-empty text_cmp key in cc

pub Keeps-empty : (p q : List ℕ → Bool) → Keeps p q empty
Keeps-empty p q key value e = absurd (no_value key value e)

pub Keeps-insert : (p q : List ℕ → Bool) (m : Texts (List ℕ)) (k v : List ℕ) → Keeps p q m → p k ≡ true → q v ≡ true → Keeps p q (insert m k v)
Keeps-insert p q m k v keeps pk qv key value e =
    elim (eq_by_cmp text_cmp key k) as (λ b. eq_by_cmp text_cmp key k ≡ b → cond b (Some v) (get m key) ≡ Some value → (p key ≡ true) × (q value ≡ true)) [
      | true ↦ λ t is. (ap p (same_key key k t) ∙ pk, (let same : v ≡ value = cc in ap q (sym same) ∙ qv))
      | false ↦ λ t is. keeps key value is
    ] refl (sym (get-insert nat_list_cmp_total m k v key) ∙ e)

-- ---- sets

-- each member passes
abbrev pub KeepsAll : (List ℕ → Bool) → TextSet → Type 0
KeepsAll p s = (text : List ℕ) → contains_key s text ≡ true → p text ≡ true

abbrev here : Option (Unit {0})
here = Some tt

is_some_here : (b : Bool) → is_some (cond b here None) ≡ b
is_some_here true = refl
is_some_here false = refl

-- what a set of listed texts has
pub contains_key-set_of : (ts : List (List ℕ)) (q : List ℕ) → contains_key (set_of ts) q ≡ list_any (eq_by_cmp text_cmp q) ts
contains_key-set_of ts q = ap is_some (get-set_of ts q) ∙ is_some_here _

both : (a b : Bool) → (a && b) ≡ true → (a ≡ true) × (b ≡ true)
both true b e = (refl, e)
both false b e = absurd (cc)

listed : (p : List ℕ → Bool) (ts : List (List ℕ)) (q : List ℕ) → list_all p ts ≡ true → list_any (eq_by_cmp text_cmp q) ts ≡ true → p q ≡ true
listed p [] q all e = absurd (cc)
listed p (t ∷ ts) q all e =
    let parts : (p t ≡ true) × (list_all p ts ≡ true) = both _ _ all in
    elim (eq_by_cmp text_cmp q t) as (λ b. eq_by_cmp text_cmp q t ≡ b → (b || list_any (eq_by_cmp text_cmp q) ts) ≡ true → p q ≡ true) [
      | true ↦ λ s _. ap p (same_key q t s) ∙ parts.0
      | false ↦ λ s is. listed p ts q parts.1 is
    ] refl e

pub KeepsAll-set_of : (p : List ℕ → Bool) (ts : List (List ℕ)) → list_all p ts ≡ true → KeepsAll p (set_of ts)
KeepsAll-set_of p ts all q e = listed p ts q all (sym (contains_key-set_of ts q) ∙ e)

every : (p : List ℕ → Bool) (ks : List (List ℕ)) → ((q : List ℕ) → list_any (eq_by_cmp text_cmp q) ks ≡ true → p q ≡ true) → list_all p ks ≡ true
every p [] h = refl
every p (k ∷ ks) h = (λ i. h k (ap (λ o. is_eq o || list_any (eq_by_cmp text_cmp k) ks) (tied_itself nat_list_cmp_total k)) i && every p ks (λ q e. h q (either (eq_by_cmp text_cmp q k) _ e)) i) where
  either : (a b : Bool) → b ≡ true → (a || b) ≡ true
  either true b e = refl
  either false b e = e

-- each of the keys passes
pub all_keys : (p : List ℕ → Bool) (s : TextSet) → KeepsAll p s → list_all p (keys s) ≡ true
all_keys p s keeps = every p (keys s) (λ q e. keeps q (contains_key-keys s q ∙ e))

pub list_all-push : (p : List ℕ → Bool) (ts : List (List ℕ)) (t : List ℕ) → list_all p ts ≡ true → p t ≡ true → list_all p (ts ++ t ∷ []) ≡ true
list_all-push p [] t all e = rw e refl
list_all-push p (s ∷ ts) t all e = let parts : (p s ≡ true) × (list_all p ts ≡ true) = both _ _ all in rw parts.0 (list_all-push p ts t parts.1 e)

-- where each text of a list passes, the first does, and each of the others
pub first_passes : (p : List ℕ → Bool) (all rest : List (List ℕ)) (t : List ℕ) → all ≡ t ∷ rest → list_all p all ≡ true → (p t ≡ true) × (list_all p rest ≡ true)
first_passes p all rest t is passed = both (p t) (list_all p rest) (ap (list_all p) (sym is) ∙ passed)

-- ---- items

pub IsItem-no_parts : IsItem no_parts
IsItem-no_parts = record {
  fields = Keeps-empty is_field_key is_settled;
  flags = KeepsAll-set_of is_flag_name [] refl;
  variables = Keeps-empty is_variable_key is_settled;
  owners = KeepsAll-set_of is_name [] refl;
}

set_of-firsts : (es : List (List ℕ × Unit {0})) → set_of (each (λ e. e.0) es) ≡ from_entries es
set_of-firsts [] = refl
set_of-firsts (e ∷ es) = ap (λ s. insert s e.0 tt) (set_of-firsts es)

-- the members of a set make the set
pub set_of-keys : (s : TextSet) → set_of (keys s) ≡ s
set_of-keys s = set_of-firsts (entries s) ∙ from_entries-entries s

-- the members of a set in a list
pub set_of-is_keys : (os : List (List ℕ)) (t : TextSet) → os ≡ keys t → set_of os ≡ t
set_of-is_keys os t is = ap set_of is ∙ set_of-keys t

-- ---- what is taken away

pub Keeps-remove : (p q : List ℕ → Bool) (m : Texts (List ℕ)) (k : List ℕ) → Keeps p q m → Keeps p q (remove m k)
Keeps-remove p q m k keeps key value e =
    elim (eq_by_cmp text_cmp key k) as (λ b. cond b None (get m key) ≡ Some value → (p key ≡ true) × (q value ≡ true)) [
      | true ↦ λ is. absurd (cc)
      | false ↦ λ is. keeps key value is
    ] (sym (get-remove nat_list_cmp_total m k key) ∙ e)

pub KeepsAll-insert : (p : List ℕ → Bool) (s : TextSet) (k : List ℕ) → KeepsAll p s → p k ≡ true → KeepsAll p (insert s k tt)
KeepsAll-insert p s k keeps pk text e =
    elim (eq_by_cmp text_cmp text k) as (λ b. eq_by_cmp text_cmp text k ≡ b → is_some (cond b here (get s text)) ≡ true → p text ≡ true) [
      | true ↦ λ t is. ap p (same_key text k t) ∙ pk
      | false ↦ λ t is. keeps text is
    ] refl (ap is_some (sym (get-insert nat_list_cmp_total s k tt text)) ∙ e)

pub KeepsAll-remove : (p : List ℕ → Bool) (s : TextSet) (k : List ℕ) → KeepsAll p s → KeepsAll p (remove s k)
KeepsAll-remove p s k keeps text e =
    elim (eq_by_cmp text_cmp text k) as (λ b. is_some (cond b None (get s text)) ≡ true → p text ≡ true) [
      | true ↦ λ is. absurd (cc)
      | false ↦ λ is. keeps text is
    ] (ap is_some (sym (get-remove nat_list_cmp_total s k text)) ∙ e)

-- ---- a set of owners with one more, and with one less

pub insert_there : (s : TextSet) (k : List ℕ) → contains_key s k ≡ true → insert s k tt ≡ s
insert_there s k there = same_map nat_list_cmp_total exact_texts _ _ (λ q. get-insert nat_list_cmp_total s k tt q
    ∙ elim (eq_by_cmp text_cmp q k) as (λ b. eq_by_cmp text_cmp q k ≡ b → cond b here (get s q) ≡ get s q) [
      | true ↦ λ t. some (get s q) (ap (contains_key s) (same_key q k t) ∙ there)
      | false ↦ λ t. refl
    ] refl) where
      some : (o : Option (Unit {0})) → is_some o ≡ true → here ≡ o
      some (Some u) e = refl
      some None e = absurd (cc)

pub remove_missing : (s : TextSet) (k : List ℕ) → contains_key s k ≡ false → remove s k ≡ s
remove_missing s k missing = same_map nat_list_cmp_total exact_texts _ _ (λ q. get-remove nat_list_cmp_total s k q
    ∙ elim (eq_by_cmp text_cmp q k) as (λ b. eq_by_cmp text_cmp q k ≡ b → cond b None (get s q) ≡ get s q) [
      | true ↦ λ t. none (get s q) (ap (contains_key s) (same_key q k t) ∙ missing)
      | false ↦ λ t. refl
    ] refl) where
      none : (o : Option (Unit {0})) → is_some o ≡ false → None ≡ o
      none (Some u) e = absurd (cc)
      none None e = refl

-- ---- the members that pass

filter-firsts : (p : List ℕ → Bool) (es : List (List ℕ × Unit {0})) → filter p (each (λ e. e.0) es) ≡ each (λ e. e.0) (where_key text_cmp p es)
filter-firsts p [] = refl
filter-firsts p (e ∷ es) = elim (p e.0) as (λ b. cond b (e.0 ∷ filter p (each (λ e. e.0) es)) (filter p (each (λ e. e.0) es)) ≡ each (λ (e : List ℕ × Unit {0}). e.0) (cond b (e ∷ where_key text_cmp p es) (where_key text_cmp p es))) [
  | true ↦ ap (λ l. e.0 ∷ l) (filter-firsts p es)
  | false ↦ filter-firsts p es
]

-- the members of a set that pass, in order
pub keys-retain_keys : (s : TextSet) (p : List ℕ → Bool) → filter p (keys s) ≡ keys (retain_keys s p)
keys-retain_keys s p =
    let left : List (List ℕ × Unit {0}) = where_key text_cmp p (entries s) in
    let alike : (q x : List ℕ) → text_cmp q x ≡ Equal → p x ≡ p q = λ q x t. ap p (sym (exact_texts q x t)) in
    let made : from_entries {R = text_cmp} left ≡ retain_keys s p
    = same_map nat_list_cmp_total exact_texts _ _ (λ q. get-from_entries nat_list_cmp_total left q ∙ find-where_key text_cmp p q (alike q) (entries s)
    ∙ ap (λ o. cond (p q) o None) (sym (get-entries s q)) ∙ sym (get-retain_keys s p q (alike q))) in
    filter-firsts p (entries s) ∙ ap (λ es. each (λ (e : List ℕ × Unit {0}). e.0) es) (sym (entries-in_order left (is_sorted-where_key text_cmp p (entries s) (entries_sorted s)))) ∙ ap keys made

-- the owners that are left are those of the set without the names
pub left_of_keys : (owners : TextSet) (names : List (List ℕ)) → left_of (keys owners) names ≡ keys (without owners names)
left_of_keys owners names = keys-retain_keys owners (λ owner. not (contains_key (set_of names) owner))

filter_push : (p : List ℕ → Bool) (xs : List (List ℕ)) (x : List ℕ) → filter p (xs ++ x ∷ []) ≡ filter p xs ++ cond (p x) (x ∷ []) []
filter_push p [] x = refl
filter_push p (y ∷ xs) x = elim (p y) as (λ b. cond b (y ∷ filter p (xs ++ x ∷ [])) (filter p (xs ++ x ∷ [])) ≡ cond b (y ∷ filter p xs) (filter p xs) ++ cond (p x) (x ∷ []) []) [
  | true ↦ ap (λ l. y ∷ l) (filter_push p xs x)
  | false ↦ filter_push p xs x
]

firsts-selves : (ks : List (List ℕ)) → each (λ e. e.0) (selves ks) ≡ ks
firsts-selves [] = refl
firsts-selves (k ∷ ks) = ap (λ l. k ∷ l) (firsts-selves ks)

-- a map from names to themselves has what their set has
pub held_has : (held : Texts (List ℕ)) (ns : List (List ℕ)) (q : List ℕ) → entries held ≡ selves (keys (set_of ns)) → contains_key held q ≡ contains_key (set_of ns) q
held_has held ns q is =
    contains_key-keys held q ∙ ap (list_any (eq_by_cmp text_cmp q)) (ap (each (λ (e : List ℕ × List ℕ). e.0)) is ∙ firsts-selves (keys (set_of ns))) ∙ sym (contains_key-keys (set_of ns) q)

-- ---- a turn of the loop over texts

pub set_turn : (p : List ℕ → Bool) (ts items : List (List ℕ)) (i : ℕ) (x key : List ℕ) (set new : TextSet) → items ≡ ts → i < length items → x ≡ get_or items i x → key ≡ x → p key ≡ true
    → set ≡ set_of (take i ts) → list_all p (take i ts) ≡ true → new ≡ insert set key tt → (new ≡ set_of (take (i + 1) ts)) × (list_all p (take (i + 1) ts) ≡ true)
set_turn p ts items i x key set new same h is copy good so_far all put =
    let more : take (i + 1) ts ≡ take i ts ++ x ∷ [] = ap (take (i + 1)) (sym same) ∙ take_more items i x h ∙ (λ j. take i (same j) ++ sym is j ∷ []) in (
      put ∙ (λ j. insert (so_far j) (copy j) tt) ∙ sym (set_of-push (take i ts) x) ∙ ap set_of (sym more),
      ap (list_all p) more ∙ list_all-push p (take i ts) x all (ap p (sym copy) ∙ good),
    )

-- one more of the texts, and their set
pub set_of-taken : (ts : List (List ℕ)) (i : ℕ) (x : List ℕ) → i < length ts → x ≡ get_or ts i x → set_of (take (i + 1) ts) ≡ insert (set_of (take i ts)) x tt
set_of-taken ts i x h is = ap set_of (take_more ts i x h ∙ ap (λ y. take i ts ++ y ∷ []) (sym is)) ∙ set_of-push (take i ts) x

-- ---- a list of at most one

pub keys-none : (ts : List (List ℕ)) → length ts < 1 → ts ≡ keys (set_of ts)
keys-none [] h = sym (ap (λ es. each (λ (e : List ℕ × Unit {0}). e.0) es) (entries-in_order [] tt))
keys-none (t ∷ ts) h = absurd (omega arith)

pub keys-one : (ts : List (List ℕ)) → 1 ≤ length ts → length ts < 2 → ts ≡ keys (set_of ts)
keys-one [] some few = absurd (omega arith)
keys-one (t ∷ []) some few = sym (ap (λ es. each (λ (e : List ℕ × Unit {0}). e.0) es) (entries-in_order ((t, tt) ∷ []) tt))
keys-one (t ∷ u ∷ ts) some few = absurd (omega arith)

-- ---- owners by their names

put-selves : (es : List (List ℕ × Unit {0})) (k : List ℕ) → put text_cmp k k (selves (each (λ e. e.0) es)) ≡ selves (each (λ e. e.0) (put text_cmp k tt es))
put-selves [] k = refl
put-selves (e ∷ es) k =
    let rest : List (List ℕ × List ℕ) = selves (each (λ e. e.0) es) in
    elim (text_cmp k e.0) as (λ o. text_cmp k e.0 ≡ o → by_order o ((k, k) ∷ (e.0, e.0) ∷ rest) ((e.0, k) ∷ rest) ((e.0, e.0) ∷ put text_cmp k k rest)
    ≡ selves (each (λ (f : List ℕ × Unit {0}). f.0) (by_order o ((k, tt) ∷ e ∷ es) ((e.0, tt) ∷ es) (e ∷ put text_cmp k tt es)))) [
      | Less ↦ λ t. refl
      | Equal ↦ λ t. ap (λ n. (e.0, n) ∷ rest) (exact_texts k e.0 t)
      | Greater ↦ λ t. ap (λ l. (e.0, e.0) ∷ l) (put-selves es k)
    ] refl

-- one more name
pub selves-push : (held : Texts (List ℕ)) (ts : List (List ℕ)) (t : List ℕ) → entries held ≡ selves (keys (set_of ts)) → entries (insert held t t) ≡ selves (keys (set_of (ts ++ t ∷ [])))
selves-push held ts t is =
    entries-insert nat_list_cmp_total held t t ∙ ap (put text_cmp t t) is ∙ put-selves (entries (set_of ts)) t
    ∙ ap (λ es. selves (each (λ e. e.0) es)) (sym (ap entries (set_of-push ts t) ∙ entries-insert nat_list_cmp_total (set_of ts) t tt))

pub selves-none : (held : Texts (List ℕ)) → held ≡ empty → entries held ≡ selves (keys (set_of []))
selves-none held e = ap entries e ∙ entries-in_order [] tt ∙ ap (λ es. selves (each (λ (f : List ℕ × Unit {0}). f.0) es)) (sym (entries-in_order [] tt))

pub second-selves : (ks : List (List ℕ)) → each (λ e. e.1) (selves ks) ≡ ks
second-selves [] = refl
second-selves (k ∷ ks) = ap (λ l. k ∷ l) (second-selves ks)

pub selves_turn : (ts items : List (List ℕ)) (i : ℕ) (x key value : List ℕ) (held new : Texts (List ℕ)) → items ≡ ts → i < length items → x ≡ get_or items i x → key ≡ x → value ≡ x
    → entries held ≡ selves (keys (set_of (take i ts))) → new ≡ insert held key value → entries new ≡ selves (keys (set_of (take (i + 1) ts)))
selves_turn ts items i x key value held new same h is copy again so_far put =
    let more : take (i + 1) ts ≡ take i ts ++ x ∷ [] = ap (take (i + 1)) (sym same) ∙ take_more items i x h ∙ (λ j. take i (same j) ++ sym is j ∷ []) in
    ap entries (put ∙ (λ j. insert held (copy j) (again j))) ∙ selves-push held (take i ts) x so_far ∙ ap (λ l. selves (keys (set_of l))) (sym more)

pub second-seen : {Y X : Type 0} (f : Y → List ℕ) (es : List (Y × X)) → each (λ e. e.1) es ≡ each (λ (e : List ℕ × X). e.1) (each (λ e. (f e.0, e.1)) es)
second-seen f [] = refl
second-seen f (e ∷ es) = ap (λ l. e.1 ∷ l) (second-seen f es)
