-- What the laws of writes say, over definitions alone.
use Rattle.std.proofs.Common.{◌≡◌, ℕ, Bool, true, false, cond, List, [], ◌∷◌, ◌++◌, Option, Some, None, refl, ap, ◌∙◌, inl, inr}
use Rattle.std.specs.Prelude.{slice_get, ◌⊎◌}
use Rattle.std.specs.Option.{option_map_or}
use Rattle.std.specs.List.{All, find}
use Rattle.std.proofs.lemmas.List.Elements.{All-nil, All-cons, All-head, All-tail}
use Rattle.dc_item.specs.After.{after_at}
use Rattle.dc_item.specs.declared.op.Op.{Op}
use Rattle.dc_item.specs.declared.op.After.{After}
use Rattle.dc_item.specs.declared.op.After.TheVariants.{Same, Changed, Gone}
use Rattle.dc_template.specs.declared.kinds.Kind.{Kind}
use Rattle.dc_layer.specs.State.{LayerState}
use Rattle.dc_store.specs.Holders.{has_at, holder_of, look_of}
use Rattle.dc_store.specs.StoreLaws.{IsTopmost, IsRefusal}
use Rattle.dc_store.specs.Writes.{writable_holder, copy_target, by_case, write_of}
use Rattle.dc_store.proofs.Searches.{find_passes}

-- ---- the topmost

-- the place parts the list, and none before it passes the test
pub record PartsAt (h : ℕ → Bool) (xs : List ℕ) (x : ℕ) : Type 0 where
  pub higher : List ℕ
  pub lower : List ℕ
  pub stands : xs ≡ higher ++ x ∷ lower
  pub others : All (λ y. h y ≡ false) higher

pub first_parts : (h : ℕ → Bool) (xs : List ℕ) (x : ℕ) → find h xs ≡ Some x → PartsAt h xs x
first_parts h [] x e = cc
first_parts h (y ∷ xs) x e =
    elim (h y) as (λ b. h y ≡ b → cond b (Some y) (find h xs) ≡ Some x → PartsAt h (y ∷ xs) x) [
      | true ↦ λ has e. let same : y ≡ x = cc in record { higher = []; lower = xs; stands = ap (λ z. z ∷ xs) same; others = All-nil (λ y. h y ≡ false) }
      | false ↦ λ has e. let r = first_parts h xs x e in
          record { higher = y ∷ r.higher; lower = r.lower; stands = ap (λ ys. y ∷ ys) r.stands; others = All-cons (λ y. h y ≡ false) y r.higher has r.others }
    ] refl e

pub holder_topmost : (layers : List LayerState) (places name : List ℕ) (place : ℕ) → holder_of layers places name ≡ Some place → IsTopmost layers places name place
holder_topmost layers places name place e =
    let r = first_parts (has_at layers name) places place e in
    record { higher = r.higher; lower = r.lower; stands = r.stands; has = find_passes (has_at layers name) places place e; others = r.others }

find_parted : (h : ℕ → Bool) (higher lower : List ℕ) (x : ℕ) → h x ≡ true → All (λ y. h y ≡ false) higher → find h (higher ++ x ∷ lower) ≡ Some x
find_parted h [] lower x has others = ap (λ b. cond b (Some x) (find h lower)) has
find_parted h (y ∷ higher) lower x has others =
    ap (λ b. cond b (Some y) (find h (higher ++ x ∷ lower))) (All-head (λ y. h y ≡ false) y higher others)
    ∙ find_parted h higher lower x has (All-tail (λ y. h y ≡ false) y higher others)

pub topmost_holder : (layers : List LayerState) (places name : List ℕ) (place : ℕ) → IsTopmost layers places name place → holder_of layers places name ≡ Some place
topmost_holder layers places name place t = ap (find (has_at layers name)) t.stands ∙ find_parted (has_at layers name) t.higher t.lower place t.has t.others

find_none : (h : ℕ → Bool) (xs : List ℕ) → find h xs ≡ None → All (λ y. h y ≡ false) xs
find_none h [] e = All-nil (λ y. h y ≡ false)
find_none h (y ∷ xs) e =
    elim (h y) as (λ b. h y ≡ b → cond b (Some y) (find h xs) ≡ None → All (λ y. h y ≡ false) (y ∷ xs)) [
      | true ↦ λ has e. cc
      | false ↦ λ has e. All-cons (λ y. h y ≡ false) y xs has (find_none h xs e)
    ] refl e

pub holder_none : (layers : List LayerState) (places name : List ℕ) → holder_of layers places name ≡ None → All (λ place. has_at layers name place ≡ false) places
holder_none layers places name e = find_none (has_at layers name) places e

-- ---- which layer changes

pub record StandsAt (ls : List LayerState) (p : ℕ) : Type 0 where
  pub layer : LayerState
  pub is : slice_get ls p ≡ Some layer

stands_by : (f : LayerState → Bool) (ls : List LayerState) (p : ℕ) (o : Option LayerState) → slice_get ls p ≡ o → option_map_or f o false ≡ true → (l : StandsAt ls p) × (f l.layer ≡ true)
stands_by f ls p None e h = cc
stands_by f ls p (Some layer) e h = (record { layer = layer; is = e }, h)

-- a layer of which a test holds stands at the place
pub stands_at : (f : LayerState → Bool) (ls : List LayerState) (p : ℕ) → option_map_or f (slice_get ls p) false ≡ true → StandsAt ls p
stands_at f ls p h = (stands_by f ls p (slice_get ls p) refl h).0

-- ---- why one is refused

refused_by : (ls : List LayerState) (n : List ℕ) (held up : Option ℕ) (made : After) → by_case ls held up n made ≡ None
    → (made ≡ Same → ⊥) × (held ≡ None) × ((made ≡ Gone) ⊎ (up ≡ None))
refused_by ls n held up Same h = cc
refused_by ls n None up Gone h = (λ e. cc, refl, inl refl)
refused_by ls n (Some p) up Gone h = cc
refused_by ls n None None (Changed item) h = (λ e. cc, refl, inr refl)
refused_by ls n None (Some p) (Changed item) h = cc
refused_by ls n (Some p) up (Changed item) h = cc

pub refusal_cause : (ls : List LayerState) (ps n : List ℕ) (k : Option Kind) (op : Op) → write_of ls ps n k op ≡ None → IsRefusal ls ps n k op
refusal_cause ls ps n k op h =
    let r = refused_by ls n (writable_holder ls ps n) (copy_target ls ps n k) (after_at op (look_of ls ps n)) h in
    record { changes = r.0; held = r.1; homeless = r.2 }
