-- The names that were touched.
use Rattle.std.proofs.Common.{◌≡◌, ℕ, true, false, cond, List, [], ◌∷◌, ◌++◌, refl, sym, ap, ◌∙◌, append_assoc}
use Rattle.std.specs.Prelude.{◌||◌, fold}
use Rattle.std.specs.List.{list_any, IsDistinct, AllByRecursion}
use Rattle.std.specs.Str.{bytes_eq}
use Rattle.std.proofs.lemmas.List.{append-nil}
use Rattle.std.proofs.lemmas.List.Folds.{list_any-append}
use Rattle.std.proofs.lemmas.Slice.Eq.{bytes_eq-Decides}
use Rattle.dc_table.specs.Tracked.{touch}

-- a name that is there was touched already
pub touched_already : (names : List (List ℕ)) (name : List ℕ) → list_any (bytes_eq name) names ≡ true → names ≡ touch names name
touched_already names name is = ap (λ b. cond b names (names ++ name ∷ [])) (sym is)

-- a name that isn't there goes last
pub touched_new : (names : List (List ℕ)) (name : List ℕ) → list_any (bytes_eq name) names ≡ false → names ++ name ∷ [] ≡ touch names name
touched_new names name is = ap (λ b. cond b names (names ++ name ∷ [])) (sym is)

-- ---- names that differ

pub flips : (a b : List ℕ) → bytes_eq a b ≡ false → bytes_eq b a ≡ false
flips a b e = elim (bytes_eq b a) as (λ t. bytes_eq b a ≡ t → t ≡ false) [
  | true ↦ λ is. absurd (let both : false ≡ true = sym e ∙ (bytes_eq-Decides a b).1 (sym ((bytes_eq-Decides b a).0 is)) in cc)
  | false ↦ λ is. refl
] refl

-- none of them is among the names
abbrev AreNew : List (List ℕ) → List (List ℕ) → Type 0
AreNew names more = AllByRecursion (λ name. list_any (bytes_eq name) names ≡ false) more

still_new : (names : List (List ℕ)) (name : List ℕ) (more : List (List ℕ)) → AreNew names more → AllByRecursion (λ other. bytes_eq name other ≡ false) more → AreNew (names ++ name ∷ []) more
still_new names name [] new apart = tt
still_new names name (n ∷ ns) new apart =
    (list_any-append (bytes_eq n) names (name ∷ []) ∙ (λ i. new.0 i || (flips name n apart.0 i || false)), still_new names name ns new.1 apart.1)

all_new : (names : List (List ℕ)) → AreNew [] names
all_new [] = tt
all_new (n ∷ ns) = (refl, all_new ns)

all_touched : (names more : List (List ℕ)) → AreNew names more → IsDistinct bytes_eq more → fold touch names more ≡ names ++ more
unfolding IsDistinct
all_touched names [] new apart = sym (append-nil names)
all_touched names (n ∷ ns) new apart =
    ap (λ b. fold touch (cond b names (names ++ n ∷ [])) ns) new.0
    ∙ all_touched (names ++ n ∷ []) ns (still_new names n ns new.1 apart.0) apart.1 ∙ append_assoc names (n ∷ []) ns

-- of names of which no two are the same each comes first
pub each_first : (names : List (List ℕ)) → IsDistinct bytes_eq names → fold touch [] names ≡ names
each_first names apart = all_touched [] names (all_new names) apart
