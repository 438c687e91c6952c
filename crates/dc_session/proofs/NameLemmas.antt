-- Names that are kept in the order of adding.
use Rattle.std.proofs.Common.{◌≡◌, ℕ, Bool, true, false, cond, List, [], ◌∷◌, ◌++◌, map as each, refl, ap, sym, ◌∙◌, Vec, Global}
use Rattle.std.specs.Prelude.{◌≢◌, ◌||◌}
use Rattle.std.specs.List.{list_any, All, AllByRecursion}
use Rattle.std.specs.Str.{bytes_eq}
use Rattle.std.proofs.lemmas.List.{map-append}
use Rattle.std.proofs.lemmas.List.Elements.{All-from_recursion}
use Rattle.std.proofs.lemmas.Slice.Eq.{bytes_eq-Decides}
use Rattle.indexmap.specs.IndexSet.{insert_key}
use Rattle.dc_text.specs.Maps.{AreDistinct}
use Rattle.dc_text.specs.Names.{is_name}
use Rattle.dc_session.specs.Asking.{is_among, with_name}

-- the bytes of each key
abbrev pub names_in : List (Vec ℕ Global) → List (List ℕ)
names_in keys = each (λ k. k.items) keys

-- each of the texts is a name
abbrev pub AreNames : List (List ℕ) → Type 0
AreNames names = AllByRecursion (λ n. is_name n ≡ true) names

pub any_names : (eq : Vec ℕ Global → Vec ℕ Global → Bool) → ((k j : Vec ℕ Global) → eq k j ≡ bytes_eq k.items j.items) → (ks : List (Vec ℕ Global)) (k : Vec ℕ Global)
    → list_any (eq k) ks ≡ list_any (bytes_eq k.items) (names_in ks)
any_names eq same [] k = refl
any_names eq same (j ∷ ks) k = (λ i. same k j i || any_names eq same ks k i)

pub among_names : (test : Vec ℕ Global → Bool) (name : List ℕ) → ((j : Vec ℕ Global) → test j ≡ bytes_eq name j.items) → (ks : List (Vec ℕ Global)) → list_any test ks ≡ is_among (names_in ks) name
among_names test name same [] = refl
among_names test name same (j ∷ ks) = (λ i. same j i || among_names test name same ks i)

either : (b : Bool) (ks : List (Vec ℕ Global)) (k : Vec ℕ Global) → names_in (cond b ks (ks ++ k ∷ [])) ≡ cond b (names_in ks) (names_in ks ++ k.items ∷ [])
either true ks k = refl
either false ks k = map-append (λ j. j.items) ks (k ∷ [])

-- a key that is put in is the last name
pub names_in-insert_key : (eq : Vec ℕ Global → Vec ℕ Global → Bool) → ((k j : Vec ℕ Global) → eq k j ≡ bytes_eq k.items j.items) → (ks : List (Vec ℕ Global)) (k : Vec ℕ Global)
    → names_in (insert_key eq ks k) ≡ with_name (names_in ks) k.items
names_in-insert_key eq same ks k =
    either (list_any (eq k) ks) ks k ∙ ap (λ b. cond b (names_in ks) (names_in ks ++ k.items ∷ [])) (any_names eq same ks k)

-- ---- names stay names, and distinct

are_names_behind : (names : List (List ℕ)) (name : List ℕ) → AreNames names → is_name name ≡ true → AreNames (names ++ name ∷ [])
are_names_behind [] name all is = (is, tt)
are_names_behind (first ∷ names) name all is = (all.0, are_names_behind names name all.1 is)

pub are_names_with : (names : List (List ℕ)) (name : List ℕ) → AreNames names → is_name name ≡ true → AreNames (with_name names name)
are_names_with names name all is = by_test (is_among names name) where
  by_test : (b : Bool) → AreNames (cond b names (names ++ name ∷ []))
  by_test true = all
  by_test false = are_names_behind names name all is

-- a name that isn't among some is none of them
other_behind : (names : List (List ℕ)) (first name : List ℕ) → AllByRecursion (λ other. other ≢ first) names → name ≢ first → AllByRecursion (λ other. other ≢ first) (names ++ name ∷ [])
other_behind [] first name all not_first = (not_first, tt)
other_behind (other ∷ names) first name all not_first = (all.0, other_behind names first name all.1 not_first)

not_same : (name other : List ℕ) → bytes_eq name other ≡ false → name ≢ other
not_same name other none is = let both : false ≡ true = sym none ∙ (bytes_eq-Decides name other).1 is in cc

neither : (a b : Bool) → (a || b) ≡ false → (a ≡ false) × (b ≡ false)
neither true b is = cc
neither false b is = (refl, is)

distinct_behind : (names : List (List ℕ)) (name : List ℕ) → AreDistinct names → is_among names name ≡ false → AreDistinct (names ++ name ∷ [])
distinct_behind [] name all none = (tt, tt)
distinct_behind (first ∷ names) name all none =
    let here = neither (bytes_eq name first) (is_among names name) none in
    (other_behind names first name all.0 (not_same name first here.0), distinct_behind names name all.1 here.1)

pub distinct_with : (names : List (List ℕ)) (name : List ℕ) → AreDistinct names → AreDistinct (with_name names name)
distinct_with names name all = by_test (is_among names name) refl where
  by_test : (b : Bool) → is_among names name ≡ b → AreDistinct (cond b names (names ++ name ∷ []))
  by_test true is = all
  by_test false is = distinct_behind names name all is

-- each key is a name
pub keys_are_names : (keys : List (Vec ℕ Global)) → AreNames (names_in keys) → All (λ k. is_name k.items ≡ true) keys
keys_are_names keys all = All-from_recursion _ keys (by_keys keys all) where
  by_keys : (ks : List (Vec ℕ Global)) → AreNames (names_in ks) → AllByRecursion (λ k. is_name k.items ≡ true) ks
  by_keys [] named = tt
  by_keys (k ∷ ks) named = (named.0, by_keys ks named.1)
