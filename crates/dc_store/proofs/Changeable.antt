-- What can be changed takes every operation that doesn't take it away, and what can't takes none that changes it.
use Rattle.std.proofs.Common.{◌≡◌, ◌≢◌, ℕ, Bool, true, false, not, ◌&&◌, ◌||◌, List, [], ◌∷◌, ◌++◌, Option, Some, None, is_some, refl, sym, ap, ◌∙◌, ⊎_elim, inl, inr}
use Rattle.std.specs.Prelude.{◌⊎◌, option_and_then, if◌then◌else◌}
use Rattle.std.specs.Option.{option_or, option_map_or}
use Rattle.dc_conf.specs.Plans.{leaves, leaves_of}
use Rattle.dc_conf.specs.Trees.{Tree, Trees, Leaf, Stack, Backup, Debug, End, More}
use Rattle.dc_item.specs.After.{after_at}
use Rattle.dc_item.specs.Item.{ItemParts}
use Rattle.dc_item.specs.declared.op.After.TheVariants.{Same, Changed, Gone}
use Rattle.dc_item.specs.declared.op.After.{After}
use Rattle.dc_item.specs.declared.op.Op.TheVariants.{Put}
use Rattle.dc_item.specs.declared.op.Op.{Op}
use Rattle.dc_template.specs.declared.kinds.Kind.{Kind}
use Rattle.dc_layer.specs.State.{LayerState}
use Rattle.dc_store.specs.Holders.{item_at, has_at, holder_of, look_of}
use Rattle.dc_store.specs.Plans.{stored, would_take, can_change, can_change_held, first_would_take, look, holds}
use Rattle.dc_store.specs.Takes.{takes, takes_held, takes_first, made_takes}
use Rattle.dc_store.specs.Writes.{is_writable_at, takes_at, is_open_at, is_change}
use Rattle.dc_store.proofs.One.{held_look, unheld_look, no_holder}
use Rattle.dc_store.proofs.Joins.{holder_first, holder_second}
use Rattle.dc_store.proofs.Searches.{look_step}
use Rattle.dc_store.proofs.TestLemmas.{tested_first, test_is}

or_cases : (a b : Bool) → (a || b) ≡ true → (a ≡ true) ⊎ (b ≡ true)
or_cases true b h = inl refl
or_cases false b h = inr h

or_neither : (a b : Bool) → (a || b) ≡ false → (a ≡ false) × (b ≡ false)
or_neither true b h = cc
or_neither false b h = (refl, h)

or_right : (a b : Bool) → b ≡ true → (a || b) ≡ true
or_right true b h = refl
or_right false b h = h

and_parts : (a b : Bool) → (a && b) ≡ true → (a ≡ true) × (b ≡ true)
and_parts true b h = (refl, h)
and_parts false b h = cc

none_of : (o : Option ItemParts) → is_some o ≡ false → o ≡ None
none_of None h = refl
none_of (Some i) h = cc

changes : (made : After) → (made ≡ Same → ⊥) → is_change made ≡ true
changes Same d = absurd (d refl)
changes (Changed item) d = refl
changes Gone d = refl

module _ (ls : List LayerState) (n : List ℕ) (k : Option Kind) where
  leaf_sees : (p : ℕ) → look_of ls (p ∷ []) n ≡ item_at ls p n
  leaf_sees p = look_step ls p [] n ∙ or_none (item_at ls p n) where
    or_none : (o : Option ItemParts) → option_or o None ≡ o
    or_none None = refl
    or_none (Some i) = refl

  leaf_holds : (p : ℕ) → holds ls (Leaf p) n ≡ has_at ls n p
  leaf_holds p = elim (has_at ls n p) as (λ b. is_some (if b then Some p else None) ≡ b) [ true ↦ refl | false ↦ refl ]

  some_first : (xs ys : List ℕ) → is_some (holder_of ls xs n) ≡ true → is_some (holder_of ls (xs ++ ys) n) ≡ true
  some_first xs ys h = by_holder (holder_of ls xs n) refl h where
    by_holder : (o : Option ℕ) → holder_of ls xs n ≡ o → is_some o ≡ true → is_some (holder_of ls (xs ++ ys) n) ≡ true
    by_holder None e h = cc
    by_holder (Some p) e h = ap is_some (holder_first ls n xs ys p e)

  behind : (xs ys : List ℕ) → is_some (holder_of ls xs n) ≡ false → is_some (holder_of ls (xs ++ ys) n) ≡ false → is_some (holder_of ls ys n) ≡ false
  behind xs ys e h = sym (ap is_some (holder_second ls n xs ys (no_holder ls n xs e))) ∙ h

  -- a put to what doesn't hold the item is taken whatever the item is
  mutual
    new_takes : (t : Tree) (i j : ItemParts) → holds ls t n ≡ false → takes ls t n k (Put i) ≡ takes ls t n k (Put j)
    new_takes (Leaf p) i j h =
        let none = none_of (item_at ls p n) (sym (leaf_holds p) ∙ h) in
        ap (λ o. not (is_change (after_at (Put i) o)) || is_open_at ls n k p) none ∙ sym (ap (λ o. not (is_change (after_at (Put j) o)) || is_open_at ls n k p) none)
    new_takes (Stack ts) i j h =
        let unseen = ap (option_and_then (λ q. item_at ls q n)) (no_holder ls n (leaves_of ts) h) in
        let one = none_held ts (Put i) h in
        let two = none_held ts (Put j) h in
        (λ x. one x || made_takes (after_at (Put i) (unseen x)) (λ put. takes_first ls ts n k put))
        ∙ (first_takes ts i j ∙ sym (λ x. two x || made_takes (after_at (Put j) (unseen x)) (λ put. takes_first ls ts n k put)))
    new_takes (Backup first second) i j h = new_takes first i j h
    new_takes (Debug t) i j h = new_takes t i j h

    first_takes : (ts : Trees) (i j : ItemParts) → takes_first ls ts n k (Put i) ≡ takes_first ls ts n k (Put j)
    first_takes End i j = refl
    first_takes (More t ts) i j =
        elim (holds ls t n) as (λ b. holds ls t n ≡ b → (if b then false else takes ls t n k (Put i) || takes_first ls ts n k (Put i)) ≡ (if b then false else takes ls t n k (Put j) || takes_first ls ts n k (Put j))) [
          | true ↦ λ e. refl
          | false ↦ λ e. λ x. new_takes t i j e x || first_takes ts i j x
        ] refl

    none_held : (ts : Trees) (op : Op) → is_some (holder_of ls (leaves_of ts) n) ≡ false → takes_held ls ts n k op ≡ false
    none_held End op h = refl
    none_held (More t ts) op h =
        elim (holds ls t n) as (λ b. holds ls t n ≡ b → (if b then takes ls t n k op else takes_held ls ts n k op) ≡ false) [
          | true ↦ λ e. let bad : true ≡ false = sym (some_first (leaves t) (leaves_of ts) e) ∙ h in cc
          | false ↦ λ e. none_held ts op (behind (leaves t) (leaves_of ts) e h)
        ] refl

  -- ---- what can be changed

  first_is : (ts : Trees) (item : ItemParts) → first_would_take ls ts n k (Put item) ≡ takes_first ls ts n k (Put item)
  first_is ts item = tested_first n k ts (stored ls []) (Put item)

  -- by what is seen, where the put of it would be taken
  made_taken : (ts : Trees) (op : Op) (seen : Option ItemParts) → option_map_or (λ item. first_would_take ls ts n k (Put item)) seen false ≡ true → (after_at op seen ≡ Gone → ⊥)
      → made_takes (after_at op seen) (λ put. takes_first ls ts n k put) ≡ true
  made_taken ts op None h d = cc
  made_taken ts op (Some item) h d = by_made (after_at op (Some item)) d where
    by_made : (made : After) → (made ≡ Gone → ⊥) → made_takes made (λ put. takes_first ls ts n k put) ≡ true
    by_made Same d = refl
    by_made Gone d = absurd (d refl)
    by_made (Changed new) d = first_takes ts new item ∙ (sym (first_is ts item) ∙ h)

  made_refused : (ts : Trees) (op : Op) (seen : Option ItemParts) → is_some seen ≡ true → option_map_or (λ item. first_would_take ls ts n k (Put item)) seen false ≡ false → (after_at op seen ≡ Same → ⊥)
      → made_takes (after_at op seen) (λ put. takes_first ls ts n k put) ≡ false
  made_refused ts op None s h d = cc
  made_refused ts op (Some item) s h d = by_made (after_at op (Some item)) d where
    by_made : (made : After) → (made ≡ Same → ⊥) → made_takes made (λ put. takes_first ls ts n k put) ≡ false
    by_made Same d = absurd (d refl)
    by_made Gone d = refl
    by_made (Changed new) d = first_takes ts new item ∙ (sym (first_is ts item) ∙ h)

  mutual
    pub taken : (t : Tree) (op : Op) → can_change ls t n k ≡ true → (after_at op (look ls t n) ≡ Gone → ⊥) → takes ls t n k op ≡ true
    taken (Leaf p) op h d =
        let both = and_parts (has_at ls n p) (is_writable_at ls p) h in
        or_right (not (is_change (after_at op (item_at ls p n)))) (is_open_at ls n k p) (ap (λ b. if b then is_writable_at ls p else takes_at ls n k p) both.0 ∙ both.1)
    taken (Stack ts) op h d =
        ⊎_elim
        (λ held. ap (λ b. b || made_takes (after_at op (look_of ls (leaves_of ts) n)) (λ put. takes_first ls ts n k put)) (taken_held ts op held d))
        (λ up. or_right (takes_held ls ts n k op) (made_takes (after_at op (look_of ls (leaves_of ts) n)) (λ put. takes_first ls ts n k put)) (made_taken ts op (look_of ls (leaves_of ts) n) up d))
        (or_cases (can_change_held ls ts n k) (option_map_or (λ item. first_would_take ls ts n k (Put item)) (look_of ls (leaves_of ts) n) false) h)
    taken (Backup first second) op h d = taken first op h d
    taken (Debug t) op h d = taken t op h d

    taken_held : (ts : Trees) (op : Op) → can_change_held ls ts n k ≡ true → (after_at op (look_of ls (leaves_of ts) n) ≡ Gone → ⊥) → takes_held ls ts n k op ≡ true
    taken_held End op h d = cc
    taken_held (More t ts) op h d =
        elim (holds ls t n) as (λ b. holds ls t n ≡ b → (if b then can_change ls t n k else can_change_held ls ts n k) ≡ true → (if b then takes ls t n k op else takes_held ls ts n k op) ≡ true) [
          | true ↦ λ e c. taken t op c (λ g. d (ap (after_at op) (held_look ls n (leaves t) (leaves_of ts) e) ∙ g))
          | false ↦ λ e c. taken_held ts op c (λ g. d (ap (after_at op) (unheld_look ls n (leaves t) (leaves_of ts) e) ∙ g))
        ] refl h

  mutual
    pub refused : (t : Tree) (op : Op) → is_some (look ls t n) ≡ true → can_change ls t n k ≡ false → (after_at op (look ls t n) ≡ Same → ⊥) → takes ls t n k op ≡ false
    refused (Leaf p) op s h d =
        let has : has_at ls n p ≡ true = sym (ap is_some (leaf_sees p)) ∙ s in
        let closed : is_writable_at ls p ≡ false = sym (ap (λ b. b && is_writable_at ls p) has) ∙ h in
        let change = changes (after_at op (item_at ls p n)) (λ g. d (ap (after_at op) (leaf_sees p) ∙ g)) in
        (λ i. not (change i) || is_open_at ls n k p) ∙ (ap (λ b. if b then is_writable_at ls p else takes_at ls n k p) has ∙ closed)
    refused (Stack ts) op s h d =
        let parts = or_neither (can_change_held ls ts n k) (option_map_or (λ item. first_would_take ls ts n k (Put item)) (look_of ls (leaves_of ts) n) false) h in
        (λ i. refused_held ts op s parts.0 d i || made_takes (after_at op (look_of ls (leaves_of ts) n)) (λ put. takes_first ls ts n k put))
        ∙ made_refused ts op (look_of ls (leaves_of ts) n) s parts.1 d
    refused (Backup first second) op s h d = refused first op s h d
    refused (Debug t) op s h d = refused t op s h d

    refused_held : (ts : Trees) (op : Op) → is_some (look_of ls (leaves_of ts) n) ≡ true → can_change_held ls ts n k ≡ false → (after_at op (look_of ls (leaves_of ts) n) ≡ Same → ⊥)
        → takes_held ls ts n k op ≡ false
    refused_held End op s h d = refl
    refused_held (More t ts) op s h d =
        elim (holds ls t n) as (λ b. holds ls t n ≡ b → (if b then can_change ls t n k else can_change_held ls ts n k) ≡ false → (if b then takes ls t n k op else takes_held ls ts n k op) ≡ false) [
          | true ↦ λ e c. let same = held_look ls n (leaves t) (leaves_of ts) e in refused t op (sym (ap is_some same) ∙ s) c (λ g. d (ap (after_at op) same ∙ g))
          | false ↦ λ e c. let same = unheld_look ls n (leaves t) (leaves_of ts) e in refused_held ts op (sym (ap is_some same) ∙ s) c (λ g. d (ap (after_at op) same ∙ g))
        ] refl h

pub changeable_taken : (layers : List LayerState) (t : Tree) (n : List ℕ) (k : Option Kind) (op : Op) → can_change layers t n k ≡ true → after_at op (look layers t n) ≢ Gone → would_take layers t n k op ≡ true
changeable_taken layers t n k op h d = test_is layers t n k op ∙ taken layers n k t op h d

pub unchangeable_refused : (layers : List LayerState) (t : Tree) (n : List ℕ) (k : Option Kind) (op : Op) → is_some (look layers t n) ≡ true → can_change layers t n k ≡ false
    → after_at op (look layers t n) ≢ Same → would_take layers t n k op ≡ false
unchangeable_refused layers t n k op s h d = test_is layers t n k op ∙ refused layers n k t op s h d

-- ---- what can be changed is there

module _ (ls : List LayerState) (n : List ℕ) (k : Option Kind) where
  some_look : (seen : Option ItemParts) (f : ItemParts → Bool) → option_map_or f seen false ≡ true → is_some seen ≡ true
  some_look None f h = cc
  some_look (Some item) f h = refl

  mutual
    there : (t : Tree) → can_change ls t n k ≡ true → is_some (look ls t n) ≡ true
    there (Leaf p) h = ap is_some (leaf_sees ls n k p) ∙ (and_parts (has_at ls n p) (is_writable_at ls p) h).0
    there (Stack ts) h =
        ⊎_elim (λ held. there_held ts held) (λ up. some_look (look_of ls (leaves_of ts) n) (λ item. first_would_take ls ts n k (Put item)) up)
        (or_cases (can_change_held ls ts n k) (option_map_or (λ item. first_would_take ls ts n k (Put item)) (look_of ls (leaves_of ts) n) false) h)
    there (Backup first second) h = there first h
    there (Debug t) h = there t h

    there_held : (ts : Trees) → can_change_held ls ts n k ≡ true → is_some (look_of ls (leaves_of ts) n) ≡ true
    there_held End h = cc
    there_held (More t ts) h =
        elim (holds ls t n) as (λ b. holds ls t n ≡ b → (if b then can_change ls t n k else can_change_held ls ts n k) ≡ true → is_some (look_of ls (leaves t ++ leaves_of ts) n) ≡ true) [
          | true ↦ λ e c. ap is_some (held_look ls n (leaves t) (leaves_of ts) e) ∙ there t c
          | false ↦ λ e c. ap is_some (unheld_look ls n (leaves t) (leaves_of ts) e) ∙ there_held ts c
        ] refl h

pub changeable_there : (layers : List LayerState) (t : Tree) (n : List ℕ) (k : Option Kind) → can_change layers t n k ≡ true → is_some (look layers t n) ≡ true
changeable_there layers t n k h = there layers n k t h
