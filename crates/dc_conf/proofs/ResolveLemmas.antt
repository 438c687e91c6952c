-- The first name that no database has.
use Rattle.std.proofs.Common.{◌≡◌, ℕ, ◌+◌, true, false, cond, List, [], ◌∷◌, ◌++◌, length, Some, None, refl, ap, arith}
use Rattle.std.specs.List.{AllByRecursion}
use Rattle.dc_conf.specs.Configuration.{is_among, IsFirstUnknown}
use Rattle.dc_conf.specs.Machine.{unknown_from}

-- the names from this place on
record IsUnknownFrom (specs : List (List ℕ)) (from : ℕ) (roots : List (List ℕ)) (place : ℕ) : Type 0 where
  before : List (List ℕ)
  root : List ℕ
  after : List (List ℕ)
  whole : roots ≡ before ++ root ∷ after
  place_is : place ≡ from + length before
  known : AllByRecursion (λ name. is_among specs name ≡ true) before
  unknown : is_among specs root ≡ false

found : (specs : List (List ℕ)) (from : ℕ) (roots : List (List ℕ)) (place : ℕ) → unknown_from specs from roots ≡ Some place → IsUnknownFrom specs from roots place
found specs from [] place e = absurd (cc)
found specs from (root ∷ roots) place e =
    elim (is_among specs root) as (λ t. is_among specs root ≡ t → cond t (unknown_from specs (from + 1) roots) (Some from) ≡ Some place → IsUnknownFrom specs from (root ∷ roots) place) [
      | true ↦ λ h f.
          let rest : IsUnknownFrom specs (from + 1) roots place = found specs (from + 1) roots place f in
          record {
            before = root ∷ rest.before;
            root = rest.root;
            after = rest.after;
            whole = ap (λ rs. root ∷ rs) rest.whole;
            place_is = omega (arith, rest.place_is);
            known = (h, rest.known);
            unknown = rest.unknown;
          }
      | false ↦ λ h f.
          let same : from ≡ place = cc in
          record { before = []; root = root; after = roots; whole = refl; place_is = omega (arith, same); known = tt; unknown = h }
    ] refl e

pub unknown_is : (specs : List (List ℕ)) (roots : List (List ℕ)) (place : ℕ) → unknown_from specs 0 roots ≡ Some place → IsFirstUnknown specs roots place
unknown_is specs roots place e =
    let is : IsUnknownFrom specs 0 roots place = found specs 0 roots place e in
    record { before = is.before; root = is.root; after = is.after; whole = is.whole; place_is = omega (arith, is.place_is); known = is.known; unknown = is.unknown }

pub all_known : (specs : List (List ℕ)) (from : ℕ) (roots : List (List ℕ)) → unknown_from specs from roots ≡ None → AllByRecursion (λ name. is_among specs name ≡ true) roots
all_known specs from [] e = tt
all_known specs from (root ∷ roots) e =
    elim (is_among specs root) as (λ t. is_among specs root ≡ t → cond t (unknown_from specs (from + 1) roots) (Some from) ≡ None → AllByRecursion (λ name. is_among specs name ≡ true) (root ∷ roots)) [
      | true ↦ λ h f. (h, all_known specs (from + 1) roots f)
      | false ↦ λ h f. absurd (cc)
    ] refl e
