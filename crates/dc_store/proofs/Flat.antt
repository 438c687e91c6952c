-- A flat stack is written as it is without trees.
use Rattle.std.proofs.Common.{◌≡◌, ℕ, true, false, cond, List, Option, Some, None, is_some, refl, sym, ap, ◌∙◌}
use Rattle.std.specs.Prelude.{option_map, option_and_then, if◌then◌else◌}
use Rattle.dc_conf.specs.Plans.{leaves_of}
use Rattle.dc_conf.specs.Trees.{Trees, Leaf, Stack, Backup, Debug, End, More}
use Rattle.dc_item.specs.After.{after_at}
use Rattle.dc_item.specs.Item.{ItemParts}
use Rattle.dc_item.specs.declared.op.After.TheVariants.{Same, Changed, Gone}
use Rattle.dc_item.specs.declared.op.After.{After}
use Rattle.dc_item.specs.declared.op.Op.TheVariants.{Put}
use Rattle.dc_item.specs.declared.op.Op.{Op}
use Rattle.dc_template.specs.declared.kinds.Kind.{Kind}
use Rattle.dc_store.specs.Holders.{item_at, has_at, holder_of, look_of}
use Rattle.dc_store.specs.Plans.{StoreState, stored, leaf_written, or_else, put_above, write, write_held, write_first}
use Rattle.dc_store.specs.StoreLaws.{IsFlat}
use Rattle.dc_store.specs.Writes.{put_at, is_writable_at, takes_at, copy_target, put_up, by_case, write_of}
use Rattle.dc_store.proofs.Searches.{find_above, find_passes}

no_item : (o : Option ItemParts) → is_some o ≡ false → o ≡ None
no_item None h = refl
no_item (Some i) h = cc

module _ (s : StoreState) (n : List ℕ) (k : Option Kind) where
  abbrev held_by : Op → Option ℕ → Option StoreState
  held_by op None = None
  held_by op (Some p) = leaf_written s p n k (after_at op (item_at s.layers p n))

  held_flat : (plans : Trees) (op : Op) → IsFlat plans → write_held s plans n k op ≡ held_by op (holder_of s.layers (leaves_of plans) n)
  held_flat End op f = refl
  held_flat (More (Leaf x) plans) op f =
      elim (has_at s.layers n x) as (λ b. (if is_some (if b then Some x else None) then leaf_written s x n k (after_at op (item_at s.layers x n)) else write_held s plans n k op)
      ≡ held_by op (if b then Some x else holder_of s.layers (leaves_of plans) n)) [ true ↦ refl | false ↦ held_flat plans op f ]
  held_flat (More (Stack x) plans) op f = absurd f
  held_flat (More (Backup x y) plans) op f = absurd f
  held_flat (More (Debug x) plans) op f = absurd f

  first_flat : (plans : Trees) (item : ItemParts) → IsFlat plans
      → write_first s plans n k (Put item) ≡ option_map (λ p. stored (put_at s.layers p n (Changed item)) s.told) (copy_target s.layers (leaves_of plans) n k)
  first_flat End item f = refl
  first_flat (More (Leaf x) plans) item f =
      elim (has_at s.layers n x) as (λ b. has_at s.layers n x ≡ b → (if is_some (if b then Some x else None) then None else or_else (leaf_written s x n k (after_at (Put item) (item_at s.layers x n))) (write_first s plans n k (Put item)))
      ≡ option_map (λ p. stored (put_at s.layers p n (Changed item)) s.told) (cond b None (cond (takes_at s.layers n k x) (Some x) (copy_target s.layers (leaves_of plans) n k)))) [
        | true ↦ λ e. refl
        | false ↦ λ e.
            ap (λ o. or_else (leaf_written s x n k (after_at (Put item) o)) (write_first s plans n k (Put item))) (no_item (item_at s.layers x n) e)
            ∙ (ap (λ b. or_else (if (if b then is_writable_at s.layers x else takes_at s.layers n k x) then Some (stored (put_at s.layers x n (Changed item)) s.told) else None) (write_first s plans n k (Put item))) e
            ∙ elim (takes_at s.layers n k x) as (λ b. or_else (if b then Some (stored (put_at s.layers x n (Changed item)) s.told) else None) (write_first s plans n k (Put item))
            ≡ option_map (λ p. stored (put_at s.layers p n (Changed item)) s.told) (cond b (Some x) (copy_target s.layers (leaves_of plans) n k))) [ true ↦ refl | false ↦ first_flat plans item f ])
      ] refl
      ∙ ap (option_map (λ p. stored (put_at s.layers p n (Changed item)) s.told)) (sym (find_above (takes_at s.layers n k) (has_at s.layers n) x (leaves_of plans)))
  first_flat (More (Stack x) plans) item f = absurd f
  first_flat (More (Backup x y) plans) item f = absurd f
  first_flat (More (Debug x) plans) item f = absurd f

  put_is : (up : Option ℕ) (item : ItemParts) → option_map (λ p. stored (put_at s.layers p n (Changed item)) s.told) up ≡ option_map (λ layers. stored layers s.told) (put_up s.layers up n item)
  put_is None item = refl
  put_is (Some p) item = refl

  -- what is put, by the item
  abbrev above_made : After → (ItemParts → Option StoreState) → Option StoreState
  above_made Same put = Some s
  above_made Gone put = None
  above_made (Changed item) put = put item

  above_is : (plans : Trees) (made : After) → put_above s made (λ put. write_first s plans n k put) ≡ above_made made (λ item. write_first s plans n k (Put item))
  above_is plans Same = refl
  above_is plans Gone = refl
  above_is plans (Changed item) = refl

  -- where no layer that is writable holds it
  unheld : (up : Option ℕ) (made : After) → above_made made (λ item. option_map (λ p. stored (put_at s.layers p n (Changed item)) s.told) up) ≡ option_map (λ layers. stored layers s.told) (by_case s.layers None up n made)
  unheld up Same = refl
  unheld up Gone = refl
  unheld up (Changed item) = put_is up item

  held : (up : Option ℕ) (p : ℕ) (made : After) → has_at s.layers n p ≡ true
      → or_else (leaf_written s p n k made) (above_made made (λ item. option_map (λ q. stored (put_at s.layers q n (Changed item)) s.told) up))
      ≡ option_map (λ layers. stored layers s.told) (by_case s.layers (if is_writable_at s.layers p then Some p else None) up n made)
  held up p Same h = refl
  held up p Gone h =
      ap (λ b. or_else (if (if b then is_writable_at s.layers p else takes_at s.layers n k p) then Some (stored (put_at s.layers p n Gone) s.told) else None) None) h
      ∙ elim (is_writable_at s.layers p) as (λ b. or_else (if b then Some (stored (put_at s.layers p n Gone) s.told) else None) None
      ≡ option_map (λ layers. stored layers s.told) (by_case s.layers (if b then Some p else None) up n Gone)) [ true ↦ refl | false ↦ refl ]
  held up p (Changed item) h =
      let put = option_map (λ q. stored (put_at s.layers q n (Changed item)) s.told) up in
      ap (λ b. or_else (if (if b then is_writable_at s.layers p else takes_at s.layers n k p) then Some (stored (put_at s.layers p n (Changed item)) s.told) else None) put) h
      ∙ elim (is_writable_at s.layers p) as (λ b. or_else (if b then Some (stored (put_at s.layers p n (Changed item)) s.told) else None) put
      ≡ option_map (λ layers. stored layers s.told) (by_case s.layers (if b then Some p else None) up n (Changed item))) [ true ↦ refl | false ↦ put_is up item ]

  pub flat : (plans : Trees) (op : Op) → IsFlat plans → write s (Stack plans) n k op ≡ option_map (λ layers. stored layers s.told) (write_of s.layers (leaves_of plans) n k op)
  flat plans op f =
      ap (or_else (write_held s plans n k op)) (above_is plans (after_at op (look_of s.layers (leaves_of plans) n)))
      ∙ (λ i. or_else (held_flat plans op f i) (above_made (after_at op (look_of s.layers (leaves_of plans) n)) (λ item. first_flat plans item f i)))
      ∙ by_holder (holder_of s.layers (leaves_of plans) n) refl
    where
      by_holder : (o : Option ℕ) → holder_of s.layers (leaves_of plans) n ≡ o
          → or_else (held_by op o) (above_made (after_at op (option_and_then (λ p. item_at s.layers p n) o)) (λ item. option_map (λ q. stored (put_at s.layers q n (Changed item)) s.told) (copy_target s.layers (leaves_of plans) n k)))
          ≡ option_map (λ layers. stored layers s.told) (by_case s.layers (option_and_then (λ p. if is_writable_at s.layers p then Some p else None) o) (copy_target s.layers (leaves_of plans) n k) n (after_at op (option_and_then (λ p. item_at s.layers p n) o)))
      by_holder None e = unheld (copy_target s.layers (leaves_of plans) n k) (after_at op None)
      by_holder (Some p) e = held (copy_target s.layers (leaves_of plans) n k) p (after_at op (item_at s.layers p n)) (find_passes (has_at s.layers n) (leaves_of plans) p e)
