-- A load in a list of layers, and the loads behind it.
use Rattle.std.proofs.Common.{◌≡◌, ℕ, zero, suc, ◌+◌, ◌<◌, List, [], ◌∷◌, Some, map as each, length, take, drop, get_or, refl, sym, ap, ◌∙◌, arith, Result, Ok, Err, add-one}
use Rattle.std.specs.Prelude.{slice_get}
use Rattle.std.proofs.Math.ListN.{set}
use Rattle.dc_conf.specs.declared.spec.LayerSpec.{LayerSpec}
use Rattle.dc_layer.specs.State.{LayerState, blank, set_up}
use Rattle.dc_shelf.specs.Shelves.{Sources, LoadAnswer, GoesOn, all_set_up, told, LoadsAll, LoadsTold, IsLoadedAt}
use Rattle.dc_shelf.specs.declared.loading.SourceError.{SourceError}

module _ {A : Type 0} (f : A → LayerState) where
  pub got_at : (xs : List A) (i : ℕ) (d : A) → i < length xs → slice_get (each f xs) i ≡ Some (f (get_or xs i d))
  got_at [] i d within = absurd (omega arith)
  got_at (x ∷ xs) zero d within = refl
  got_at (x ∷ xs) (suc i) d within = got_at xs i d (omega arith)

  pub stood : (xs : List A) (i : ℕ) (d : A) → i < length xs → drop i (each f xs) ≡ f (get_or xs i d) ∷ drop (suc i) (each f xs)
  stood [] i d within = absurd (omega arith)
  stood (x ∷ xs) zero d within = refl
  stood (x ∷ xs) (suc i) d within = stood xs i d (omega arith)

  pub stands : (xs : List A) (i : ℕ) (y : A) → i < length xs → drop i (each f (set xs i y)) ≡ f y ∷ drop (suc i) (each f xs)
  stands [] i y within = absurd (omega arith)
  stands (x ∷ xs) zero y within = refl
  stands (x ∷ xs) (suc i) y within = stands xs i y (omega arith)

  behind : (xs : List A) (i : ℕ) (y : A) → drop (suc i) (each f (set xs i y)) ≡ drop (suc i) (each f xs)
  behind [] i y = refl
  behind (x ∷ xs) zero y = refl
  behind (x ∷ xs) (suc i) y = behind xs i y

  pub before : (xs : List A) (i : ℕ) (y : A) → take i (each f (set xs i y)) ≡ take i (each f xs)
  before [] i y = refl
  before (x ∷ xs) zero y = refl
  before (x ∷ xs) (suc i) y = ap (λ l. f x ∷ l) (before xs i y)

  pub is_loaded_at : (xs : List A) (i : ℕ) (d y : A) → i < length xs → (spec : LayerSpec) (from left : Sources) (result : Result (Unit {0}) SourceError)
      → LoadsTold spec (f (get_or xs i d)) (f y) from left result → IsLoadedAt spec i (each f xs) (each f (set xs i y)) from left result
  is_loaded_at xs i d y within spec from left result loads = record {
    layer = f (get_or xs i d);
    made = f y;
    stood = stood xs i d within;
    stands = stands xs i y within;
    behind = behind xs i y;
    kept = before xs i y;
    loads = loads;
  }

pub spec_at : (specs : List LayerSpec) (i : ℕ) (spec : LayerSpec) → i < length specs → spec ≡ get_or specs i spec → drop i specs ≡ spec ∷ drop (suc i) specs
spec_at [] i spec within is = absurd (omega arith)
spec_at (y ∷ specs) zero spec within is = ap (λ z. z ∷ specs) (sym is)
spec_at (y ∷ specs) (suc i) spec within is = spec_at specs i spec (omega arith) is

at_place : (layers : List LayerState) (i : ℕ) (layer : LayerState) → slice_get layers i ≡ Some layer → drop i layers ≡ layer ∷ drop (suc i) layers
at_place [] i layer is = cc
at_place (y ∷ layers) zero layer is = let same : y ≡ layer = cc in ap (λ z. z ∷ layers) same
at_place (y ∷ layers) (suc i) layer is = at_place layers i layer is

-- the layer at the place is as it is set up
pub set_at : (specs : List LayerSpec) (layers : List LayerState) (i : ℕ) (spec : LayerSpec) → i < length specs → spec ≡ get_or specs i spec → drop i layers ≡ all_set_up (drop i specs)
    → (layer : LayerState) → slice_get layers i ≡ Some layer → layer ≡ set_up (blank spec.sort) spec
set_at specs layers i spec within is are layer at =
    let one : layer ∷ drop (suc i) layers ≡ set_up (blank spec.sort) spec ∷ all_set_up (drop (suc i) specs) = sym (at_place layers i layer at) ∙ are ∙ ap all_set_up (spec_at specs i spec within is) in
    cc

kept_head : (i : ℕ) (new old : List LayerState) (made : LayerState) (rest : List LayerState) → take (suc i) new ≡ take (suc i) old → drop i old ≡ made ∷ rest → drop i new ≡ made ∷ drop (suc i) new
kept_head zero [] [] made rest same are = cc
kept_head zero [] (y ∷ old) made rest same are = cc
kept_head zero (x ∷ new) [] made rest same are = cc
kept_head zero (x ∷ new) (y ∷ old) made rest same are = let head : x ≡ made = cc in ap (λ z. z ∷ new) head
kept_head (suc i) [] [] made rest same are = cc
kept_head (suc i) [] (y ∷ old) made rest same are = cc
kept_head (suc i) (x ∷ new) [] made rest same are = cc
kept_head (suc i) (x ∷ new) (y ∷ old) made rest same are = let tails : take (suc i) new ≡ take (suc i) old = cc in kept_head i new old made rest tails are

pub take_less : (i : ℕ) (new old : List LayerState) → take (suc i) new ≡ take (suc i) old → take i new ≡ take i old
take_less zero new old same = refl
take_less (suc i) [] [] same = refl
take_less (suc i) [] (y ∷ old) same = cc
take_less (suc i) (x ∷ new) [] same = cc
take_less (suc i) (x ∷ new) (y ∷ old) same =
    let head : x ≡ y = cc in
    let tails : take (suc i) new ≡ take (suc i) old = cc in
    λ k. head k ∷ take_less i new old tails k

-- ---- by what is told of the answer

goes_on : (first : LoadAnswer) (value : Unit {0}) (result : Result (Unit {0}) SourceError) (more last : Type 0) → Ok value ≡ told first → more → GoesOn first result more last
goes_on (LoadAnswer.OfFiles (Ok loaded)) value result more last is holds = holds
goes_on (LoadAnswer.OfPipe (Ok loaded)) value result more last is holds = holds
goes_on (LoadAnswer.OfFiles (Err error)) value result more last is holds = absurd (cc)
goes_on (LoadAnswer.OfPipe (Err error)) value result more last is holds = absurd (cc)

ends : (first : LoadAnswer) (error : SourceError) (more last : Type 0) → Err error ≡ told first → last → GoesOn first (Err error) more last
ends (LoadAnswer.OfFiles (Ok loaded)) error more last is holds = absurd (cc)
ends (LoadAnswer.OfPipe (Ok loaded)) error more last is holds = absurd (cc)
ends (LoadAnswer.OfFiles (Err first)) error more last is holds = (is, holds)
ends (LoadAnswer.OfPipe (Err first)) error more last is holds = (is, holds)

module _ (specs : List LayerSpec) (old mid : List LayerState) (i : ℕ) (spec : LayerSpec) (from middle : Sources) (within : i < length specs) (is : spec ≡ get_or specs i spec) where
  pub loads_on : (new : List LayerState) (left : Sources) (value : Unit {0}) (result : Result (Unit {0}) SourceError) → IsLoadedAt spec i old mid from middle (Ok value)
      → LoadsAll (drop (i + 1) specs) (drop (i + 1) mid) (drop (i + 1) new) middle left result → take (i + 1) new ≡ take (i + 1) mid
      → LoadsAll (drop i specs) (drop i old) (drop i new) from left result
  loads_on new left value result at more kept =
      let kept_suc : take (suc i) new ≡ take (suc i) mid = rw (← add-one) kept in
      let more_suc : LoadsAll (drop (suc i) specs) (drop (suc i) mid) (drop (suc i) new) middle left result = rw (← add-one) more in
      let behind_suc : LoadsAll (drop (suc i) specs) (drop (suc i) old) (drop (suc i) new) middle left result = rw (← at.behind) more_suc in
      rw (spec_at specs i spec within is, at.stood, kept_head i new mid at.made (drop (suc i) old) kept_suc at.stands) (
        at.loads.first,
        middle,
        at.loads.loads,
        goes_on at.loads.first value result (LoadsAll (drop (suc i) specs) (drop (suc i) old) (drop (suc i) new) middle left result)
            ((drop (suc i) new ≡ drop (suc i) old) × (left ≡ middle)) at.loads.told_is behind_suc,
      )

  pub loads_end : (error : SourceError) → IsLoadedAt spec i old mid from middle (Err error) → LoadsAll (drop i specs) (drop i old) (drop i mid) from middle (Err error)
  loads_end error at =
      rw (spec_at specs i spec within is, at.stood, at.stands) (
        at.loads.first,
        middle,
        at.loads.loads,
        ends at.loads.first error (LoadsAll (drop (suc i) specs) (drop (suc i) old) (drop (suc i) old) middle middle (Err error))
            ((drop (suc i) old ≡ drop (suc i) old) × (middle ≡ middle)) at.loads.told_is (refl, refl),
      )
