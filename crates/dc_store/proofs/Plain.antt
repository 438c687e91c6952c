-- Where an item lands that is put on a plan of databases and stacks alone.
use Rattle.std.proofs.Common.{◌≡◌, ℕ, Bool, true, false, cond, ◌&&◌, List, [], ◌∷◌, ◌++◌, Option, Some, None, is_some, refl, sym, ap, ◌∙◌}
use Rattle.std.specs.Prelude.{option_map, option_and_then, if◌then◌else◌}
use Rattle.std.specs.Option.{option_or}
use Rattle.std.specs.List.{find}
use Rattle.std.proofs.lemmas.List.Folds.{find-append}
use Rattle.dc_conf.specs.Plans.{leaves, leaves_of}
use Rattle.dc_conf.specs.Trees.{Tree, Trees, Leaf, Stack, Backup, Debug, End, More}
use Rattle.dc_item.specs.After.{after_at}
use Rattle.dc_item.specs.Item.{ItemParts}
use Rattle.dc_item.specs.declared.op.After.TheVariants.{Changed}
use Rattle.dc_item.specs.declared.op.Op.TheVariants.{Put}
use Rattle.dc_item.specs.declared.op.Op.{Op}
use Rattle.dc_template.specs.declared.kinds.Kind.{Kind}
use Rattle.dc_layer.specs.State.{LayerState, with_made, made_at}
use Rattle.dc_store.specs.Holders.{item_at, has_at, holder_of, look_of}
use Rattle.dc_store.specs.Plans.{StoreState, stored, leaf_written, or_else, put_above, write, write_held, write_first}
use Rattle.dc_store.specs.Targets.{is_plain, are_plain}
use Rattle.dc_store.specs.Writes.{is_writable_at, takes_at, writable_holder, copy_target, put_target, change_at, put_at}
use Rattle.dc_store.proofs.Joins.{holder_first, holder_second}
use Rattle.dc_store.proofs.LawLemmas.{holder_none}
use Rattle.dc_store.proofs.LeafLemmas.{change_made, leaf_open}
use Rattle.dc_store.proofs.Searches.{find_within, find_passes, find_above, open_is_holder}

and_parts : (a b : Bool) → (a && b) ≡ true → (a ≡ true) × (b ≡ true)
and_parts true b h = (refl, h)
and_parts false b h = cc

module _ (s : StoreState) (n : List ℕ) (k : Option Kind) where
  pub one_place : (x p : ℕ) → holder_of s.layers (x ∷ []) n ≡ Some p → x ≡ p
  one_place x p held = elim (has_at s.layers n x) as (λ b. (if b then Some x else None) ≡ Some p → x ≡ p) [ true ↦ λ h. cc | false ↦ λ h. cc ] held

  -- where the holder is writable, it gets what became of the item
  mutual
    held_lands : (plan : Tree) (p : ℕ) (op : Op) → is_plain plan ≡ true → holder_of s.layers (leaves plan) n ≡ Some p → is_writable_at s.layers p ≡ true
        → write s plan n k op ≡ Some (stored (put_at s.layers p n (after_at op (item_at s.layers p n))) s.told)
    held_lands (Leaf x) p op plain held o =
        let has = find_passes (has_at s.layers n) (x ∷ []) p held in
        let same : x ≡ p = one_place x p held in
        ap (λ q. leaf_written s q n k (after_at op (item_at s.layers q n))) same
        ∙ leaf_open s p n k (after_at op (item_at s.layers p n)) (ap (λ b. if b then is_writable_at s.layers p else takes_at s.layers n k p) has ∙ o)
    held_lands (Stack plans) p op plain held o = ap (λ w. or_else w (put_above s (after_at op (look_of s.layers (leaves_of plans) n)) (λ put. write_first s plans n k put))) (held_lands_in plans p op plain held o)
    held_lands (Backup first second) p op plain held o = cc
    held_lands (Debug plan) p op plain held o = cc

    held_lands_in : (plans : Trees) (p : ℕ) (op : Op) → are_plain plans ≡ true → holder_of s.layers (leaves_of plans) n ≡ Some p → is_writable_at s.layers p ≡ true
        → write_held s plans n k op ≡ Some (stored (put_at s.layers p n (after_at op (item_at s.layers p n))) s.told)
    held_lands_in End p op plain held o = cc
    held_lands_in (More plan plans) p op plain held o =
        let both = and_parts (is_plain plan) (are_plain plans) plain in
        elim (holder_of s.layers (leaves plan) n) as (λ found. holder_of s.layers (leaves plan) n ≡ found → (if is_some found then write s plan n k op else write_held s plans n k op)
        ≡ Some (stored (put_at s.layers p n (after_at op (item_at s.layers p n))) s.told)) [
          | None ↦ λ e. held_lands_in plans p op both.1 (sym (holder_second s.layers n (leaves plan) (leaves_of plans) e) ∙ held) o
          | Some q ↦ λ e. held_lands plan p op both.0 (e ∙ (sym (holder_first s.layers n (leaves plan) (leaves_of plans) q e) ∙ held)) o
        ] refl

  -- where there is none, the first place that takes it gets the item
  abbrev pub home_put : ItemParts → Option ℕ → Option StoreState
  home_put item place = option_map (λ p. stored (put_at s.layers p n (Changed item)) s.told) place

  no_item : (o : Option ItemParts) → is_some o ≡ false → o ≡ None
  no_item None h = refl
  no_item (Some i) h = cc

  first_joined : (item : ItemParts) (xs ys : List ℕ) → home_put item (find (takes_at s.layers n k) (xs ++ ys)) ≡ or_else (home_put item (find (takes_at s.layers n k) xs)) (home_put item (find (takes_at s.layers n k) ys))
  first_joined item xs ys = ap (home_put item) (find-append (takes_at s.layers n k) xs ys) ∙ by_first (find (takes_at s.layers n k) xs) where
    by_first : (o : Option ℕ) → home_put item (option_or o (find (takes_at s.layers n k) ys)) ≡ or_else (home_put item o) (home_put item (find (takes_at s.layers n k) ys))
    by_first None = refl
    by_first (Some p) = refl

  not_held : (x : ℕ) → holder_of s.layers (x ∷ []) n ≡ None → has_at s.layers n x ≡ false
  not_held x none = elim (has_at s.layers n x) as (λ b. (if b then Some x else None) ≡ None → b ≡ false) [ true ↦ λ h. cc | false ↦ λ h. refl ] none

  pub none_both : (xs ys : List ℕ) → holder_of s.layers (xs ++ ys) n ≡ None → (holder_of s.layers xs n ≡ None) × (holder_of s.layers ys n ≡ None)
  none_both xs ys none = by_first (holder_of s.layers xs n) refl where
    by_first : (o : Option ℕ) → holder_of s.layers xs n ≡ o → (holder_of s.layers xs n ≡ None) × (holder_of s.layers ys n ≡ None)
    by_first None e = (e, sym (holder_second s.layers n xs ys e) ∙ none)
    by_first (Some p) e = let bad : Some p ≡ None = sym (holder_first s.layers n xs ys p e) ∙ none in cc

  mutual
    pub home_lands : (plan : Tree) (item : ItemParts) → is_plain plan ≡ true → holder_of s.layers (leaves plan) n ≡ None → write s plan n k (Put item) ≡ home_put item (find (takes_at s.layers n k) (leaves plan))
    home_lands (Leaf x) item plain none =
        let empty = no_item (item_at s.layers x n) (not_held x none) in
        ap (λ o. leaf_written s x n k (after_at (Put item) o)) empty
        ∙ (ap (λ b. if (if b then is_writable_at s.layers x else takes_at s.layers n k x) then Some (stored (put_at s.layers x n (Changed item)) s.told) else None) (not_held x none)
        ∙ elim (takes_at s.layers n k x) as (λ b. (if b then Some (stored (put_at s.layers x n (Changed item)) s.told) else None) ≡ home_put item (if b then Some x else None)) [ true ↦ refl | false ↦ refl ])
    home_lands (Stack plans) item plain none =
        let unseen = ap (option_and_then (λ q. item_at s.layers q n)) none in
        (λ i. or_else (none_held plans (Put item) none i) (put_above s (after_at (Put item) (unseen i)) (λ put. write_first s plans n k put)))
        ∙ home_lands_in plans item plain none
    home_lands (Backup first second) item plain none = cc
    home_lands (Debug plan) item plain none = cc

    home_lands_in : (plans : Trees) (item : ItemParts) → are_plain plans ≡ true → holder_of s.layers (leaves_of plans) n ≡ None → write_first s plans n k (Put item) ≡ home_put item (find (takes_at s.layers n k) (leaves_of plans))
    home_lands_in End item plain none = refl
    home_lands_in (More plan plans) item plain none =
        let both = and_parts (is_plain plan) (are_plain plans) plain in
        let split = none_both (leaves plan) (leaves_of plans) none in
        ap (λ f. if is_some f then None else or_else (write s plan n k (Put item)) (write_first s plans n k (Put item))) split.0
        ∙ ((λ i. or_else (home_lands plan item both.0 split.0 i) (home_lands_in plans item both.1 split.1 i)) ∙ sym (first_joined item (leaves plan) (leaves_of plans)))

    pub none_held : (plans : Trees) (op : Op) → holder_of s.layers (leaves_of plans) n ≡ None → write_held s plans n k op ≡ None
    none_held End op none = refl
    none_held (More plan plans) op none =
        let split = none_both (leaves plan) (leaves_of plans) none in
        ap (λ f. if is_some f then write s plan n k op else write_held s plans n k op) split.0 ∙ none_held plans op split.1

-- the places above the holder are all, where there is none
above_all : (ls : List LayerState) (n : List ℕ) (k : Option Kind) (xs : List ℕ) → holder_of ls xs n ≡ None → copy_target ls xs n k ≡ find (takes_at ls n k) xs
above_all ls n k [] none = refl
above_all ls n k (x ∷ xs) none =
    find_above (takes_at ls n k) (has_at ls n) x xs
    ∙ elim (has_at ls n x) as (λ b. cond b (Some x) (holder_of ls xs n) ≡ None → cond b None (cond (takes_at ls n k x) (Some x) (copy_target ls xs n k)) ≡ cond (takes_at ls n k x) (Some x) (find (takes_at ls n k) xs)) [
      | true ↦ λ h. cc
      | false ↦ λ h. ap (λ o. cond (takes_at ls n k x) (Some x) o) (above_all ls n k xs h)
    ] none

-- where there is no holder, an item goes to the first place that takes it
pub home_target : (ls : List LayerState) (n : List ℕ) (k : Option Kind) (xs : List ℕ) → None ≡ holder_of ls xs n → find (takes_at ls n k) xs ≡ put_target ls xs n k
home_target ls n k xs none = sym (above_all ls n k xs (sym none)) ∙ ap (λ o. if is_some o then writable_holder ls xs n else copy_target ls xs n k) none

pub plain_lands : (s : StoreState) (n : List ℕ) (k : Option Kind) (plan : Tree) (p : ℕ) (item : ItemParts) → is_plain plan ≡ true → put_target s.layers (leaves plan) n k ≡ Some p
    → write s plan n k (Put item) ≡ Some (stored (change_at s.layers p (λ layer. with_made layer n (made_at layer n (Put item)))) s.told)
plain_lands s n k plan p item plain h = by_holder (holder_of s.layers (leaves plan) n) refl h where
  made : Some (stored (put_at s.layers p n (after_at (Put item) (item_at s.layers p n))) s.told) ≡ Some (stored (change_at s.layers p (λ layer. with_made layer n (made_at layer n (Put item)))) s.told)
  made = ap (λ ls. Some (stored ls s.told)) (sym (change_made s.layers p n (Put item)))

  by_holder : (o : Option ℕ) → holder_of s.layers (leaves plan) n ≡ o → (if is_some o then writable_holder s.layers (leaves plan) n else copy_target s.layers (leaves plan) n k) ≡ Some p
      → write s plan n k (Put item) ≡ Some (stored (change_at s.layers p (λ layer. with_made layer n (made_at layer n (Put item)))) s.told)
  by_holder None e up =
      let found = sym (above_all s.layers n k (leaves plan) e) ∙ up in
      home_lands s n k plan item plain e ∙ (ap (home_put s n k item) found ∙ (ap (λ o. Some (stored (put_at s.layers p n (after_at (Put item) o)) s.told)) (sym (no_item s n k (item_at s.layers p n) (find_within (takes_at s.layers n k) (λ q. has_at s.layers n q ≡ false) (leaves plan) p (holder_none s.layers (leaves plan) n e) found))) ∙ made))
  by_holder (Some q) e up =
      let found = open_is_holder s.layers (holder_of s.layers (leaves plan) n) p up in
      held_lands s n k plan p (Put item) plain found.0 found.1 ∙ made
