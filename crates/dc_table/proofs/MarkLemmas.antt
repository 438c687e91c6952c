-- The names that were touched, as their places among the keys of a table, or themselves.
use Rattle.std.proofs.Common.{◌≡◌, ℕ, zero, suc, ◌+◌, ◌-◌, ◌<◌, ◌≤◌, ◌⊎◌, inl, inr, ⊎_elim, Bool, true, false, cond, ◌&&◌, ◌||◌, not, List, [], ◌∷◌, ◌++◌, length, take, map, get_or, nat_eq, nat_lt, refl, sym, ap, ◌∙◌, arith, ltb-true, lt-ltb, slice_get, Some, length-append, add-one, take-suc}
use Rattle.std.specs.List.{list_all, list_any, position_or_len, AllByRecursion, IsDistinct}
use Rattle.std.specs.Map.{keys_of}
use Rattle.std.specs.Option.{option_map}
use Rattle.std.specs.Str.{bytes_eq}
use Rattle.std.proofs.lemmas.Bool.Decides.{Decides-eqb}
use Rattle.std.proofs.lemmas.List.{map-append, get_or_append_left}
use Rattle.std.proofs.lemmas.Map.Keys.{apart_from_distinct}
use Rattle.std.proofs.lemmas.Map.Entries.{length-keys_of}
use Rattle.std.proofs.lemmas.Option.{get_or_from_slice_get, slice_get-map}
use Rattle.std.proofs.lemmas.Slice.Eq.{bytes_eq-Decides}
use Rattle.indexmap.specs.IndexMap.{insert_entry}
use Rattle.indexmap.proofs.SetLemmas.{keys_insert_entry}
use Rattle.dc_text.specs.Bytes.{is_nil}
use Rattle.dc_table.specs.Places.{put}
use Rattle.dc_table.specs.Marks.{Marks, AtPlaces, AsNames, name_at, touched_in, are_within, AreApart, has_none, has_mark, with_mark, without_last}
use Rattle.dc_table.specs.Tracked.{touch}
use Rattle.dc_table.proofs.PlaceLemmas.{turned}
use Rattle.dc_table.proofs.TouchedLemmas.{touched_already, touched_new, flips}

-- ---- numbers

split : (a b : ℕ) → (a ≡ b) ⊎ ((a < b) ⊎ (b < a))
split zero zero = inl refl
split zero (suc b) = inr (inl (omega arith))
split (suc a) zero = inr (inr (omega arith))
split (suc a) (suc b) = ⊎_elim (λ e. inl (ap suc e)) (λ rest. inr (⊎_elim (λ l. inl (omega (arith, l))) (λ g. inr (omega (arith, g))) rest)) (split a b)

differ : (a b : ℕ) → a < b → nat_eq a b ≡ false
differ a b less = elim (nat_eq a b) as (λ t. nat_eq a b ≡ t → t ≡ false) [
  | true ↦ λ e. absurd (let same : a ≡ b = (Decides-eqb a b).0 e in omega (arith, same, less))
  | false ↦ λ e. refl
] refl

below : (a b : ℕ) → nat_lt a b ≡ true → a < b
below a b e = ltb-true a b e

is_below : (a b : ℕ) → a < b → nat_lt a b ≡ true
is_below a b l = lt-ltb a b l

both : (a b : Bool) → (a && b) ≡ true → (a ≡ true) × (b ≡ true)
both true b e = (refl, e)
both false b e = absurd (cc)

-- ---- names at places

module _ (keys : List (List ℕ)) (distinct : IsDistinct bytes_eq keys) where
  -- names are the same at the same place alone
  same_name : (a b : ℕ) → a < length keys → b < length keys → bytes_eq (name_at keys a) (name_at keys b) ≡ nat_eq a b
  same_name a b within_a within_b =
      ⊎_elim (λ e. (bytes_eq-Decides (name_at keys a) (name_at keys b)).1 (ap (name_at keys) e) ∙ sym ((Decides-eqb a b).1 e))
      (⊎_elim (λ less. apart_from_distinct bytes_eq keys a b [] distinct less within_b ∙ sym (differ a b less))
      (λ more. flips (name_at keys b) (name_at keys a) (apart_from_distinct bytes_eq keys b a [] distinct more within_a) ∙ sym (turned a b ∙ differ b a more)))
      (split a b)

  same_any : (place : ℕ) (places : List ℕ) → place < length keys → list_all (λ p. nat_lt p (length keys)) places ≡ true
      → list_any (bytes_eq (name_at keys place)) (map (name_at keys) places) ≡ list_any (nat_eq place) places
  same_any place [] within all = refl
  same_any place (p ∷ ps) within all =
      let is : (nat_lt p (length keys) ≡ true) × (list_all (λ p. nat_lt p (length keys)) ps ≡ true) = both _ _ all in
      λ i. same_name place p within (below p (length keys) is.0) i || same_any place ps within is.1 i

  -- to put a place is to touch the name there
  touched_put : (places : List ℕ) (place : ℕ) (name : List ℕ) → name_at keys place ≡ name → place < length keys → list_all (λ p. nat_lt p (length keys)) places ≡ true
      → map (name_at keys) (put places place) ≡ touch (map (name_at keys) places) name
  touched_put places place name at within all =
      let any : list_any (bytes_eq name) (map (name_at keys) places) ≡ list_any (nat_eq place) places = ap (λ n. list_any (bytes_eq n) (map (name_at keys) places)) (sym at) ∙ same_any place places within all in
      elim (list_any (nat_eq place) places) as (λ b. list_any (nat_eq place) places ≡ b → map (name_at keys) (cond b places (places ++ place ∷ [])) ≡ touch (map (name_at keys) places) name) [
        | true ↦ λ e. touched_already (map (name_at keys) places) name (any ∙ e)
        | false ↦ λ e.
            map-append (name_at keys) places (place ∷ []) ∙ ap (λ n. map (name_at keys) places ++ n ∷ []) at
            ∙ touched_new (map (name_at keys) places) name (any ∙ e)
      ] refl

  pub touched_mark : (marks : Marks) (place : ℕ) (name : List ℕ) → name_at keys place ≡ name → place < length keys → are_within (length keys) marks ≡ true
      → touched_in keys (with_mark marks place name) ≡ touch (touched_in keys marks) name
  touched_mark (AtPlaces places) place name at within all = touched_put places place name at within all
  touched_mark (AsNames names) place name at within all = refl

  apart_at : (place : ℕ) (places : List ℕ) → place < length keys → list_all (λ p. nat_lt p (length keys)) places ≡ true → AllByRecursion (λ p. nat_eq place p ≡ false) places
      → AllByRecursion (λ n. bytes_eq (name_at keys place) n ≡ false) (map (name_at keys) places)
  apart_at place [] within all apart = tt
  apart_at place (p ∷ ps) within all apart =
      let is : (nat_lt p (length keys) ≡ true) × (list_all (λ p. nat_lt p (length keys)) ps ≡ true) = both _ _ all in
      (same_name place p within (below p (length keys) is.0) ∙ apart.0, apart_at place ps within is.1 apart.1)

  -- names at places of which none comes twice differ
  pub names_apart : (places : List ℕ) → list_all (λ p. nat_lt p (length keys)) places ≡ true → IsDistinct nat_eq places → IsDistinct bytes_eq (map (name_at keys) places)
  unfolding IsDistinct
  names_apart [] all apart = tt
  names_apart (p ∷ ps) all apart =
      let is : (nat_lt p (length keys) ≡ true) × (list_all (λ p. nat_lt p (length keys)) ps ≡ true) = both _ _ all in
      (apart_at p ps (below p (length keys) is.0) is.1 apart.0, names_apart ps is.1 apart.1)

-- ---- the names of entries

module _ {X : Type 0} (es : List (List ℕ × X)) where
  pub named_apart : (places : List ℕ) → are_within (length es) (AtPlaces places) ≡ true → IsDistinct bytes_eq (keys_of es) → IsDistinct nat_eq places → IsDistinct bytes_eq (map (name_at (keys_of es)) places)
  named_apart places all distinct apart = names_apart (keys_of es) distinct places (ap (λ n. list_all (λ p. nat_lt p n) places) (length-keys_of es) ∙ all) apart

  pub name_of_entry : (i : ℕ) (k : List ℕ) (v : X) → slice_get es i ≡ Some (k, v) → name_at (keys_of es) i ≡ k
  name_of_entry i k v is = get_or_from_slice_get (keys_of es) i k [] (slice_get-map (λ (e : List ℕ × X). e.0) es i ∙ ap (option_map (λ e. e.0)) is)

-- no name is touched twice
pub touched_apart : {X : Type 0} (es : List (List ℕ × X)) (marks : Marks) → are_within (length es) marks ≡ true → IsDistinct bytes_eq (keys_of es) → AreApart marks → IsDistinct bytes_eq (touched_in (keys_of es) marks)
touched_apart es (AtPlaces places) within distinct apart = named_apart es places within distinct apart
touched_apart es (AsNames names) within distinct apart = apart

-- one more name is read
pub named_next : (keys : List (List ℕ)) (places : List ℕ) (i d : ℕ) (read : List (List ℕ)) (k : List ℕ) → i < length places → read ≡ map (name_at keys) (take i places) → name_at keys (get_or places i d) ≡ k
    → read ++ k ∷ [] ≡ map (name_at keys) (take (i + 1) places)
named_next keys places i d read k within so_far at =
    (λ j. so_far j ++ sym at j ∷ []) ∙ sym (map-append (name_at keys) (take i places) (get_or places i d ∷ [])) ∙ ap (map (name_at keys)) (sym (ap (λ n. take n places) (add-one i) ∙ take-suc places i d within))

-- ---- places below a bound

pub all_below : (bound i : ℕ) (places : List ℕ) (d : ℕ) → list_all (λ p. nat_lt p bound) places ≡ true → i < length places → get_or places i d < bound
all_below bound i [] d all within = absurd (omega (arith, within))
all_below bound zero (p ∷ ps) d all within = below p bound (both _ _ all).0
all_below bound (suc i) (p ∷ ps) d all within = all_below bound i ps d (both _ _ all).1 (omega (arith, within))

wider_all : (bound wider : ℕ) (places : List ℕ) → bound ≤ wider → list_all (λ p. nat_lt p bound) places ≡ true → list_all (λ p. nat_lt p wider) places ≡ true
wider_all bound wider [] more all = refl
wider_all bound wider (p ∷ ps) more all =
    let is : (nat_lt p bound ≡ true) × (list_all (λ p. nat_lt p bound) ps ≡ true) = both _ _ all in
    let here : p < bound = below p bound is.0 in
    (λ i. is_below p wider (omega (arith, here, more)) i && wider_all bound wider ps more is.1 i)

pub within_wider : (bound wider : ℕ) (marks : Marks) → bound ≤ wider → are_within bound marks ≡ true → are_within wider marks ≡ true
within_wider bound wider (AtPlaces places) more all = wider_all bound wider places more all
within_wider bound wider (AsNames names) more all = refl

all_more : (bound place : ℕ) (places : List ℕ) → place < bound → list_all (λ p. nat_lt p bound) places ≡ true → list_all (λ p. nat_lt p bound) (places ++ place ∷ []) ≡ true
all_more bound place [] within all = λ i. is_below place bound within i && true
all_more bound place (p ∷ ps) within all =
    let is : (nat_lt p bound ≡ true) × (list_all (λ p. nat_lt p bound) ps ≡ true) = both _ _ all in
    (λ i. is.0 i && all_more bound place ps within is.1 i)

pub within_mark : (bound : ℕ) (marks : Marks) (place : ℕ) (name : List ℕ) → place < bound → are_within bound marks ≡ true → are_within bound (with_mark marks place name) ≡ true
within_mark bound (AtPlaces places) place name within all = elim (list_any (nat_eq place) places) as (λ b. list_all (λ p. nat_lt p bound) (cond b places (places ++ place ∷ [])) ≡ true) [
  | true ↦ all
  | false ↦ all_more bound place places within all
]
within_mark bound (AsNames names) place name within all = refl

-- ---- more keys behind the others

names_more : (keys more : List (List ℕ)) (places : List ℕ) → list_all (λ p. nat_lt p (length keys)) places ≡ true → map (name_at (keys ++ more)) places ≡ map (name_at keys) places
names_more keys more [] all = refl
names_more keys more (p ∷ ps) all =
    let is : (nat_lt p (length keys) ≡ true) × (list_all (λ p. nat_lt p (length keys)) ps ≡ true) = both _ _ all in
    (λ i. get_or_append_left keys more [] p (below p (length keys) is.0) i ∷ names_more keys more ps is.1 i)

pub touched_more : (keys more : List (List ℕ)) (marks : Marks) → are_within (length keys) marks ≡ true → touched_in (keys ++ more) marks ≡ touched_in keys marks
touched_more keys more (AtPlaces places) all = names_more keys more places all
touched_more keys more (AsNames names) all = refl

-- an entry put at a key moves no other
pub touched_inserted : {X : Type 0} (es fs : List (List ℕ × X)) (k : List ℕ) (v : X) (marks : Marks) → fs ≡ insert_entry bytes_eq es k v → are_within (length es) marks ≡ true
    → touched_in (keys_of fs) marks ≡ touched_in (keys_of es) marks
touched_inserted es fs k v marks is all =
    ap (λ l. touched_in l marks) (ap keys_of is ∙ keys_insert_entry bytes_eq es k v)
    ∙ elim (list_any (bytes_eq k) (keys_of es)) as (λ b. touched_in (cond b (keys_of es) (keys_of es ++ k ∷ [])) marks ≡ touched_in (keys_of es) marks) [
      | true ↦ refl
      | false ↦ touched_more (keys_of es) (k ∷ []) marks (ap (λ n. are_within n marks) (length-keys_of es) ∙ all)
    ]

-- the key stands at the place, and there are no fewer entries than the bound
abbrev Stands : {X : Type 0} → List (List ℕ × X) → List ℕ → ℕ → ℕ → Type 0
Stands fs k place bound = (name_at (keys_of fs) place ≡ k) × (place < length fs) × (bound ≤ length fs)

placed : {X : Type 0} (es : List (List ℕ × X)) (k : List ℕ) (v : X) → Stands (insert_entry bytes_eq es k v) k (position_or_len (bytes_eq k) (keys_of es)) (length es)
placed [] k v = (refl, omega arith, omega arith)
placed (e ∷ es) k v = by (bytes_eq k e.0) refl (placed es k v) where
  by : (a : Bool) → bytes_eq k e.0 ≡ a → Stands (insert_entry bytes_eq es k v) k (position_or_len (bytes_eq k) (keys_of es)) (length es)
      → Stands (cond a ((e.0, v) ∷ es) (e ∷ insert_entry bytes_eq es k v)) k (cond (not a) (1 + position_or_len (bytes_eq k) (keys_of es)) 0) (length (e ∷ es))
  by true is rest = (sym ((bytes_eq-Decides k e.0).0 is), omega arith, omega arith)
  by false is rest =
      let next : 1 + position_or_len (bytes_eq k) (keys_of es) ≡ suc (position_or_len (bytes_eq k) (keys_of es)) = omega arith in
      (ap (name_at (e.0 ∷ keys_of (insert_entry bytes_eq es k v))) next ∙ rest.0, omega (arith, rest.1), omega (arith, rest.2))

-- an entry put at a key, whose place is touched
pub touched_written : {X : Type 0} (es fs : List (List ℕ × X)) (k : List ℕ) (v : X) (marks more : Marks) (place : ℕ) → fs ≡ insert_entry bytes_eq es k v → place ≡ position_or_len (bytes_eq k) (keys_of es)
    → IsDistinct bytes_eq (keys_of fs) → more ≡ with_mark marks place k → are_within (length es) marks ≡ true
    → (touched_in (keys_of fs) more ≡ touch (touched_in (keys_of es) marks) k) × (are_within (length fs) more ≡ true)
touched_written es fs k v marks more place is at distinct marked all =
    let stands = placed es k v in
    let here : name_at (keys_of fs) place ≡ k = (λ i. name_at (keys_of (is i)) (at i)) ∙ stands.0 in
    let long : length fs ≡ length (insert_entry bytes_eq es k v) = ap length is in
    let within : place < length fs = omega (arith, at, long, stands.1) in
    let wide : are_within (length fs) marks ≡ true = within_wider (length es) (length fs) marks (omega (arith, long, stands.2)) all in
    let wide_keys : are_within (length (keys_of fs)) marks ≡ true = ap (λ n. are_within n marks) (length-keys_of fs) ∙ wide in (
      ap (touched_in (keys_of fs)) marked ∙ touched_mark (keys_of fs) distinct marks place k here (omega (arith, within, length-keys_of fs)) wide_keys
          ∙ ap (λ names. touch names k) (touched_inserted es fs k v marks is all),
      ap (are_within (length fs)) marked ∙ within_mark (length fs) marks place k within wide,
    )

-- ---- the last mark taken back

without_more : {X : Type 0} (xs : List X) (x : X) → take (length (xs ++ x ∷ []) - 1) (xs ++ x ∷ []) ≡ xs
without_more xs x = ap (λ n. take n (xs ++ x ∷ [])) (let long : length (xs ++ x ∷ []) ≡ length xs + 1 = length-append xs (x ∷ []) in omega (arith, long)) ∙ front xs (x ∷ []) where
  front : {X : Type 0} (xs ys : List X) → take (length xs) (xs ++ ys) ≡ xs
  front [] [] = refl
  front [] (y ∷ ys) = refl
  front (x ∷ xs) ys = ap (λ l. x ∷ l) (front xs ys)

pub mark_taken_back : (marks : Marks) (place : ℕ) (name : List ℕ) → has_mark marks place name ≡ false → without_last (with_mark marks place name) ≡ marks
mark_taken_back (AtPlaces places) place name new = ap (λ b. without_last (AtPlaces (cond b places (places ++ place ∷ [])))) new ∙ ap AtPlaces (without_more places place)
mark_taken_back (AsNames names) place name new = ap (λ b. without_last (AsNames (cond b names (names ++ name ∷ [])))) new ∙ ap AsNames (without_more names name)

pub marked_already : (marks : Marks) (place : ℕ) (name : List ℕ) → has_mark marks place name ≡ true → with_mark marks place name ≡ marks
marked_already (AtPlaces places) place name old = ap (λ b. AtPlaces (cond b places (places ++ place ∷ []))) old
marked_already (AsNames names) place name old = ap (λ b. AsNames (cond b names (names ++ name ∷ []))) old

-- ---- whether there are any

pub none_touched : (keys : List (List ℕ)) (marks : Marks) → is_nil (touched_in keys marks) ≡ has_none marks
none_touched keys (AtPlaces []) = refl
none_touched keys (AtPlaces (p ∷ ps)) = refl
none_touched keys (AsNames names) = refl
