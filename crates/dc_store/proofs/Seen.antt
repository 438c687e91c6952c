-- What is seen after a write.
use Rattle.std.proofs.Common.{true, false, ◌≡◌, ℕ, zero, suc, true, false, List, [], ◌∷◌, ◌++◌, Option, Some, None, is_some, refl, sym, ap, subst, ◌∙◌, ⊎_elim, inl, inr, arith, cond}
use Rattle.std.specs.Prelude.{◌⊎◌, option_and_then, if◌then◌else◌}
use Rattle.std.specs.Option.{option_or}
use Rattle.std.specs.List.{AllByRecursion, Contains, after_first}
use Rattle.std.proofs.lemmas.List.Elements.{Contains-append_left, Contains-append_right}
use Rattle.std.specs.FinMap as map
use Rattle.dc_conf.specs.Plans.{leaves, seconds}
use Rattle.dc_conf.specs.Trees.{Tree}
use Rattle.dc_item.specs.After.{after_at}
use Rattle.dc_item.specs.Item.{ItemParts}
use Rattle.dc_item.specs.declared.op.After.{After}
use Rattle.dc_item.specs.declared.op.After.TheVariants.{Same, Changed, Gone}
use Rattle.dc_item.specs.declared.op.Op.{Op}
use Rattle.dc_template.specs.declared.kinds.Kind.{Kind}
use Rattle.dc_layer.specs.State.{LayerState}
use Rattle.dc_store.specs.Holders.{item_at, has_at, holder_of, look_of, look_below_of}
use Rattle.dc_store.specs.Plans.{StoreState, write, look, look_below, look_after, seen_after}
use Rattle.dc_store.specs.StoreLaws.{AreAlikeBut, IsTaken, KeepsApart, IsOnce}
use Rattle.dc_store.specs.Writes.{put_at, is_open_at}
use Rattle.dc_store.proofs.GoneLemmas.{gone_at, below_seen}
use Rattle.dc_store.proofs.One.{taken}
use Rattle.dc_store.proofs.Searches.{look_step, after_first_step}
use Rattle.dc_store.proofs.SeenLemmas.{same_name}
use Rattle.dc_store.proofs.TestLemmas.{look_alike}
use Rattle.dc_store.proofs.Walks.{put_elsewhere, has_one}

-- a place that is open has what was put
put_here : (ls : List LayerState) (p : ℕ) (n : List ℕ) (k : Option Kind) (item : ItemParts) → is_open_at ls n k p ≡ true → item_at (put_at ls p n (Changed item)) p n ≡ Some item
put_here [] p n k item o = cc
put_here (l ∷ ls) zero n k item o = same_name n item l
put_here (l ∷ ls) (suc p) n k item o = put_here ls p n k item o

no_item : (o : Option ItemParts) → is_some o ≡ false → o ≡ None
no_item None h = refl
no_item (Some i) h = cc

-- what was put is seen, where no place above has an item
seen_high : (ls : List LayerState) (n : List ℕ) (k : Option Kind) (item : ItemParts) (p : ℕ) (lower higher : List ℕ) → is_open_at ls n k p ≡ true
    → AllByRecursion (λ q. has_at ls n q ≡ false) higher → look_of (put_at ls p n (Changed item)) (higher ++ p ∷ lower) n ≡ Some item
seen_high ls n k item p lower [] o all =
    let new = put_at ls p n (Changed item) in
    look_step new p lower n ∙ ap (λ i. option_or i (look_of new lower n)) (put_here ls p n k item o)
seen_high ls n k item p lower (q ∷ higher) o all =
    let new = put_at ls p n (Changed item) in
    look_step new q (higher ++ p ∷ lower) n
    ∙ ⊎_elim
    (λ (same : p ≡ q). ap (λ i. option_or i (look_of new (higher ++ p ∷ lower) n)) (subst (λ x. item_at new x n ≡ Some item) same (put_here ls p n k item o)))
    (λ d. ap (λ i. option_or i (look_of new (higher ++ p ∷ lower) n)) (ap (option_and_then (λ (layer : LayerState). map.get layer.table n)) (put_elsewhere n ls p q (Changed item) d) ∙ no_item (item_at ls q n) all.0)
    ∙ seen_high ls n k item p lower higher o all.1)
    (same_or_not p q)
  where
    same_or_not : (x y : ℕ) → (x ≡ y) ⊎ (x ≡ y → ⊥)
    same_or_not zero zero = inl refl
    same_or_not zero (suc y) = inr (λ e. omega arith)
    same_or_not (suc x) zero = inr (λ e. omega arith)
    same_or_not (suc x) (suc y) = ⊎_elim (λ e. inl (ap suc e)) (λ d. inr (λ e. d (omega arith))) (same_or_not x y)

all_of : (P : ℕ → Type 0) (ps : List ℕ) → ((p : ℕ) → Contains ps p → P p) → AllByRecursion P ps
all_of P [] f = tt
all_of P (p ∷ ps) f = (f p (Contains-append_left (p ∷ []) ps p (has_one p)), all_of P ps (λ q c. f q (Contains-append_right (p ∷ []) ps q c)))

-- layers that are alike apart from the second plans show the same
shown : (plan : Tree) (ls ms : List LayerState) (n : List ℕ) → KeepsApart plan → AreAlikeBut (seconds plan) ls ms → look ms plan n ≡ look ls plan n
shown plan ls ms n apart alike =
    look_alike ms ls n None (leaves plan) (all_of (λ p. item_at ms p n ≡ item_at ls p n) (leaves plan) (λ p c. ap (option_and_then (λ (layer : LayerState). map.get layer.table n)) (alike p (apart p c))))

pub seen : (s new : StoreState) (plan : Tree) (n : List ℕ) (k : Option Kind) (op : Op) (item : ItemParts) → KeepsApart plan → write s plan n k op ≡ Some new
    → after_at op (look s.layers plan n) ≡ Changed item → look new.layers plan n ≡ Some item
seen s new plan n k op item apart h made = by_case (taken s new plan n k op h) where
  by_case : IsTaken s.layers plan n k (after_at op (look s.layers plan n)) new.layers → look new.layers plan n ≡ Some item
  by_case (inl x) = let bad : Same ≡ Changed item = sym x.0 ∙ made in cc
  by_case (inr c) =
      shown plan (put_at s.layers c.place n (after_at op (look s.layers plan n))) new.layers n apart c.leaves
      ∙ (ap (λ m. look (put_at s.layers c.place n m) plan n) made
      ∙ (ap (λ ps. look_of (put_at s.layers c.place n (Changed item)) ps n) c.high.stands ∙ seen_high s.layers n k item c.place c.high.lower c.high.higher c.takes c.high.others))

-- ---- what is seen where the item went

same_or_not : (x y : ℕ) → (x ≡ y) ⊎ (x ≡ y → ⊥)
same_or_not zero zero = inl refl
same_or_not zero (suc y) = inr (λ e. omega arith)
same_or_not (suc x) zero = inr (λ e. omega arith)
same_or_not (suc x) (suc y) = ⊎_elim (λ e. inl (ap suc e)) (λ d. inr (λ e. d (omega arith))) (same_or_not x y)

gone_high : (ls : List LayerState) (n : List ℕ) (p : ℕ) (lower higher : List ℕ) → has_at ls n p ≡ true → (Contains lower p → ⊥)
    → AllByRecursion (λ q. has_at ls n q ≡ false) higher → look_of (put_at ls p n Gone) (higher ++ p ∷ lower) n ≡ look_below_of ls (higher ++ p ∷ lower) n
gone_high ls n p lower [] has once all =
    let new = put_at ls p n Gone in
    look_step new p lower n
    ∙ (ap (λ i. option_or i (look_of new lower n)) (gone_at ls p n)
    ∙ (look_alike new ls n None lower
    (all_of (λ q. item_at new q n ≡ item_at ls q n) lower (λ q c. ap (option_and_then (λ (layer : LayerState). map.get layer.table n)) (put_elsewhere n ls p q Gone (λ e. once (subst (λ x. Contains lower x) (sym e) c)))))
    ∙ ap (λ ps. look_of ls ps n) (sym (after_first_step (has_at ls n) p lower ∙ ap (λ b. cond b lower (after_first (has_at ls n) lower)) has))))
gone_high ls n p lower (q ∷ higher) has once all =
    let new = put_at ls p n Gone in
    look_step new q (higher ++ p ∷ lower) n
    ∙ (ap (λ i. option_or i (look_of new (higher ++ p ∷ lower) n))
    (⊎_elim (λ (same : p ≡ q). subst (λ x. item_at new x n ≡ None) same (gone_at ls p n))
    (λ d. ap (option_and_then (λ (layer : LayerState). map.get layer.table n)) (put_elsewhere n ls p q Gone d) ∙ no_item (item_at ls q n) all.0)
    (same_or_not p q))
    ∙ (gone_high ls n p lower higher has once all.1
    ∙ ap (λ ps. look_of ls ps n) (sym (after_first_step (has_at ls n) q (higher ++ p ∷ lower) ∙ ap (λ b. cond b (higher ++ p ∷ lower) (after_first (has_at ls n) (higher ++ p ∷ lower))) all.0))))

pub seen_below : (s new : StoreState) (plan : Tree) (n : List ℕ) (k : Option Kind) (op : Op) → KeepsApart plan → IsOnce (leaves plan) → write s plan n k op ≡ Some new
    → after_at op (look s.layers plan n) ≡ Gone → look new.layers plan n ≡ look_below_of s.layers (leaves plan) n
seen_below s new plan n k op apart once h made = by_case (taken s new plan n k op h) where
  by_case : IsTaken s.layers plan n k (after_at op (look s.layers plan n)) new.layers → look new.layers plan n ≡ look_below_of s.layers (leaves plan) n
  by_case (inl x) = let bad : Same ≡ Gone = sym x.0 ∙ made in cc
  by_case (inr c) =
      shown plan (put_at s.layers c.place n (after_at op (look s.layers plan n))) new.layers n apart c.leaves
      ∙ (ap (λ m. look (put_at s.layers c.place n m) plan n) made
      ∙ (ap (λ ps. look_of (put_at s.layers c.place n Gone) ps n) c.high.stands
      ∙ (gone_high s.layers n c.place c.high.lower c.high.higher (c.had made) (once c.high.higher c.high.lower c.place c.high.stands) c.high.others
      ∙ ap (λ ps. look_below_of s.layers ps n) (sym c.high.stands))))

-- ---- what is seen where the item stays as it is

put_nothing : (ls : List LayerState) (p : ℕ) (n : List ℕ) → put_at ls p n Same ≡ ls
put_nothing [] p n = refl
put_nothing (l ∷ ls) zero n = refl
put_nothing (l ∷ ls) (suc p) n = ap (λ xs. l ∷ xs) (put_nothing ls p n)

pub seen_still : (s new : StoreState) (plan : Tree) (n : List ℕ) (k : Option Kind) (op : Op) → KeepsApart plan → write s plan n k op ≡ Some new → after_at op (look s.layers plan n) ≡ Same
    → look new.layers plan n ≡ look s.layers plan n
seen_still s new plan n k op apart h made = by_case (taken s new plan n k op h) where
  by_case : IsTaken s.layers plan n k (after_at op (look s.layers plan n)) new.layers → look new.layers plan n ≡ look s.layers plan n
  by_case (inl x) = shown plan s.layers new.layers n apart x.1
  by_case (inr c) =
      shown plan (put_at s.layers c.place n (after_at op (look s.layers plan n))) new.layers n apart c.leaves
      ∙ ap (λ xs. look xs plan n) (ap (λ m. put_at s.layers c.place n m) made ∙ put_nothing s.layers c.place n)

-- ---- what is seen on a plan of which nothing stands under a second plan

pub nowhere : (plan : Tree) → seconds plan ≡ [] → KeepsApart plan
nowhere plan none p c d = absurd (in_none (subst (λ ps. Contains ps p) none d)) where
  in_none : Contains [] p → ⊥
  in_none c = omega (arith, c.1)

high_holder : (ls : List LayerState) (n : List ℕ) (p : ℕ) (lower higher : List ℕ) → has_at ls n p ≡ true → AllByRecursion (λ q. has_at ls n q ≡ false) higher → holder_of ls (higher ++ p ∷ lower) n ≡ Some p
high_holder ls n p lower [] has all = ap (λ b. if b then Some p else holder_of ls lower n) has
high_holder ls n p lower (q ∷ higher) has all =
    ap (λ b. if b then Some q else holder_of ls (higher ++ p ∷ lower) n) all.0 ∙ high_holder ls n p lower higher has all.1

some_item : (o : Option ItemParts) → is_some o ≡ true → (item : ItemParts) × (o ≡ Some item)
some_item None h = cc
some_item (Some item) h = (item, refl)

-- what the operation left is seen, or it took away an item that was below itself too
pub taken_seen : (s new : StoreState) (plan : Tree) (n : List ℕ) (k : Option Kind) (op : Op) → KeepsApart plan → write s plan n k op ≡ Some new
    → (look new.layers plan n ≡ look_after s.layers plan n op) ⊎ ((after_at op (look s.layers plan n) ≡ Gone) × (look_below s.layers plan n ≡ look s.layers plan n))
taken_seen s new plan n k op apart h = by_made (after_at op (look s.layers plan n)) refl where
  by_made : (made : After) → after_at op (look s.layers plan n) ≡ made → (look new.layers plan n ≡ seen_after (look s.layers plan n) (look_below s.layers plan n) made) ⊎ ((made ≡ Gone) × (look_below s.layers plan n ≡ look s.layers plan n))
  by_made Same e = inl (seen_still s new plan n k op apart h e)
  by_made (Changed item) e = inl (seen s new plan n k op item apart h e)
  by_made Gone e = by_place (taken s new plan n k op h) where
    by_place : IsTaken s.layers plan n k (after_at op (look s.layers plan n)) new.layers → (look new.layers plan n ≡ look_below s.layers plan n) ⊎ ((Gone ≡ Gone) × (look_below s.layers plan n ≡ look s.layers plan n))
    by_place (inl x) = let bad : Same ≡ Gone = sym x.0 ∙ e in cc
    by_place (inr c) =
        let held = ap (λ ps. holder_of s.layers ps n) c.high.stands ∙ high_holder s.layers n c.place c.high.lower c.high.higher (c.had e) c.high.others in
        let it = some_item (item_at s.layers c.place n) (c.had e) in
        let shows = shown plan (put_at s.layers c.place n (after_at op (look s.layers plan n))) new.layers n apart c.leaves ∙ ap (λ m. look (put_at s.layers c.place n m) plan n) e in
        ⊎_elim (λ below. inl (shows ∙ below)) (λ itself. inr (refl, itself ∙ sym (ap (option_and_then (λ q. item_at s.layers q n)) held ∙ it.1)))
        (below_seen s.layers c.place n it.0 it.1 (leaves plan) held)
