-- What a put leaves, and a copy.
use Rattle.std.proofs.Common.{◌≡◌, ℕ, zero, suc, true, false, cond, List, [], ◌∷◌, Option, Some, None, refl, sym, ap, ◌∙◌}
use Rattle.std.specs.Prelude.{slice_get, option_and_then, if◌then◌else◌}
use Rattle.std.specs.List.{Contains, before_first}
use Rattle.std.specs.Cmp.Lexicographic.{nat_list_cmp_total}
use Rattle.std.specs.FinMap as map
use Rattle.std.proofs.lemmas.Cmp.{eq_by_cmp_equiv}
use Rattle.std.proofs.lemmas.List.Elements.{All-contains_itself}
use Rattle.dc_item.specs.Item.{ItemParts}
use Rattle.dc_item.specs.After.{after_at}
use Rattle.dc_item.specs.declared.op.Op.{Op}
use Rattle.dc_item.specs.declared.op.After.TheVariants.{Changed}
use Rattle.dc_template.specs.declared.kinds.Kind.{Kind}
use Rattle.dc_layer.specs.State.{LayerState, with_made}
use Rattle.dc_store.specs.Holders.{item_at, has_at, holder_of, look_of, above}
use Rattle.dc_store.specs.Writes.{is_writable_at, takes_at, writable_holder, copy_target, change_at, put_at, by_case, write_of}
use Rattle.dc_store.proofs.LawLemmas.{stands_at, StandsAt}
use Rattle.dc_store.proofs.Searches.{find_within, find_passes, above_fails}

-- ---- what a put leaves

pub same_name : (n : List ℕ) (item : ItemParts) (l : LayerState) → map.get (with_made l n (Changed item)).table n ≡ Some item
same_name n item l =
    map.get-insert nat_list_cmp_total l.table n item n ∙ ap (λ b. cond b (Some item) (map.get l.table n)) ((eq_by_cmp_equiv nat_list_cmp_total).refl n)

-- the place has what was put
put_here : (ls : List LayerState) (p : ℕ) (n : List ℕ) (item : ItemParts) (l : LayerState) → slice_get ls p ≡ Some l → item_at (put_at ls p n (Changed item)) p n ≡ Some item
put_here [] p n item l e = cc
put_here (x ∷ ls) zero n item l e = same_name n item x
put_here (x ∷ ls) (suc p) n item l e = put_here ls p n item l e

-- another place has what it had
pub change_apart : (ls : List LayerState) (p q : ℕ) (f : LayerState → LayerState) → (q ≡ p → ⊥) → slice_get (change_at ls p f) q ≡ slice_get ls q
change_apart [] p q f d = refl
change_apart (l ∷ ls) zero zero f d = absurd (d refl)
change_apart (l ∷ ls) zero (suc q) f d = refl
change_apart (l ∷ ls) (suc p) zero f d = refl
change_apart (l ∷ ls) (suc p) (suc q) f d = change_apart ls p q f (λ e. d (ap suc e))

-- a layer stands at the place of a home, and at that of a holder that is writable
home_stands : (ls : List LayerState) (ps n : List ℕ) (k : Option Kind) (p : ℕ) → copy_target ls ps n k ≡ Some p → StandsAt ls p
home_stands ls ps n k p e = stands_at _ ls p (find_passes (takes_at ls n k) (before_first (has_at ls n) ps) p e)

-- ---- a copy

copied_by : (ls new : List LayerState) (ps n : List ℕ) (k : Option Kind) (up : Option ℕ) (item : ItemParts) (holder : ℕ) → copy_target ls ps n k ≡ up → has_at ls n holder ≡ true
    → by_case ls None up n (Changed item) ≡ Some new → (place : ℕ) × Contains (above ls ps n) place × (item_at new place n ≡ Some item) × (item_at new holder n ≡ item_at ls holder n)
copied_by ls new ps n k None item holder f has h = cc
copied_by ls new ps n k (Some p) item holder f has h =
    let l = home_stands ls ps n k p f in
    let same : put_at ls p n (Changed item) ≡ new = cc in
    let differ : holder ≡ p → ⊥ = λ e. clash (sym (ap (has_at ls n) e ∙ above_fails (takes_at ls n k) (has_at ls n) ps p f) ∙ has) in (
      p,
      find_within (takes_at ls n k) (Contains (above ls ps n)) (above ls ps n) p (All-contains_itself (above ls ps n)) f,
      ap (λ ms. item_at ms p n) (sym same) ∙ put_here ls p n item l.layer l.is,
      ap (λ ms. item_at ms holder n) (sym same) ∙ ap (option_and_then (λ layer. map.get layer.table n)) (change_apart ls p holder (λ layer. with_made layer n (Changed item)) differ),
    ) where
      clash : false ≡ true → ⊥
      clash e = cc

pub copied : (ls new : List LayerState) (ps n : List ℕ) (k : Option Kind) (op : Op) (item : ItemParts) (holder : ℕ) → write_of ls ps n k op ≡ Some new
    → after_at op (look_of ls ps n) ≡ Changed item → holder_of ls ps n ≡ Some holder → is_writable_at ls holder ≡ false
    → (place : ℕ) × Contains (above ls ps n) place × (item_at new place n ≡ Some item) × (item_at new holder n ≡ item_at ls holder n)
copied ls new ps n k op item holder h m held closed =
    let none : writable_holder ls ps n ≡ None = ap (option_and_then (λ q. if is_writable_at ls q then Some q else None)) held ∙ ap (λ b. if b then Some holder else None) closed in
    copied_by ls new ps n k (copy_target ls ps n k) item holder refl (find_passes (has_at ls n) ps holder held)
    (ap (λ o. by_case ls o (copy_target ls ps n k) n (Changed item)) (sym none) ∙ ap (λ x. by_case ls (writable_holder ls ps n) (copy_target ls ps n k) n x) (sym m) ∙ h)
