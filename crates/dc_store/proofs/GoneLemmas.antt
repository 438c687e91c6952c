-- What is seen where an item went.
use Rattle.std.proofs.Common.{◌≡◌, ℕ, zero, suc, Bool, true, false, cond, List, [], ◌∷◌, Option, Some, None, is_some, refl, sym, ap, ◌∙◌, inl, inr, ⊎_elim}
use Rattle.std.specs.Prelude.{◌⊎◌}
use Rattle.std.specs.Option.{option_or}
use Rattle.std.specs.List.{after_first}
use Rattle.std.specs.Cmp.Lexicographic.{nat_list_cmp_total}
use Rattle.std.specs.FinMap as map
use Rattle.std.proofs.lemmas.Cmp.{eq_by_cmp_equiv}
use Rattle.dc_item.specs.Item.{ItemParts}
use Rattle.dc_item.specs.declared.op.After.TheVariants.{Gone}
use Rattle.dc_layer.specs.State.{LayerState, with_made}
use Rattle.dc_store.specs.Holders.{item_at, has_at, holder_of, look_of, look_below_of}
use Rattle.dc_store.specs.Writes.{put_at}
use Rattle.dc_store.proofs.Searches.{look_step, after_first_step}

-- ---- an item that goes

gone_here : (n : List ℕ) (l : LayerState) → map.get (with_made l n Gone).table n ≡ None
gone_here n l = map.get-remove nat_list_cmp_total l.table n n ∙ ap (λ b. cond b None (map.get l.table n)) ((eq_by_cmp_equiv nat_list_cmp_total).refl n)

pub gone_at : (ls : List LayerState) (p : ℕ) (n : List ℕ) → item_at (put_at ls p n Gone) p n ≡ None
gone_at [] p n = refl
gone_at (l ∷ ls) zero n = gone_here n l
gone_at (l ∷ ls) (suc p) n = gone_at ls p n

-- a place is the one that it goes from, and has none, or it has what it had
gone_either : (ls : List LayerState) (p q : ℕ) (n : List ℕ)
    → ((q ≡ p) × (item_at (put_at ls p n Gone) q n ≡ None)) ⊎ (item_at (put_at ls p n Gone) q n ≡ item_at ls q n)
gone_either [] p q n = inr refl
gone_either (l ∷ ls) zero zero n = inl (refl, gone_here n l)
gone_either (l ∷ ls) zero (suc q) n = inr refl
gone_either (l ∷ ls) (suc p) zero n = inr refl
gone_either (l ∷ ls) (suc p) (suc q) n = ⊎_elim (λ here. inl (ap suc here.0, here.1)) (λ same. inr same) (gone_either ls p q n)

module _ (ls : List LayerState) (p : ℕ) (n : List ℕ) (item : ItemParts) (is : item_at ls p n ≡ Some item) where
  -- the layers once it is gone
  abbrev left : List LayerState
  left = put_at ls p n Gone

  seen_past : (q : ℕ) (qs : List ℕ) → item_at left q n ≡ item_at ls q n → (look_of left qs n ≡ look_of ls qs n) ⊎ (look_of ls qs n ≡ Some item) → (found : Option ItemParts) → item_at ls q n ≡ found
      → (look_of left (q ∷ qs) n ≡ look_of ls (q ∷ qs) n) ⊎ (look_of ls (q ∷ qs) n ≡ Some item)
  seen_past q qs same rest (Some other) e =
      inl (look_step left q qs n ∙ ap (λ o. option_or o (look_of left qs n)) (same ∙ e) ∙ sym (look_step ls q qs n ∙ ap (λ o. option_or o (look_of ls qs n)) e))
  seen_past q qs same rest None e =
      let past : look_of ls (q ∷ qs) n ≡ look_of ls qs n = look_step ls q qs n ∙ ap (λ o. option_or o (look_of ls qs n)) e in
      ⊎_elim (λ rest. inl (look_step left q qs n ∙ ap (λ o. option_or o (look_of left qs n)) (same ∙ e) ∙ rest ∙ sym past)) (λ seen. inr (past ∙ seen)) rest

  -- among any places all is seen as it was, or the item itself was seen
  seen_among : (qs : List ℕ) → (look_of left qs n ≡ look_of ls qs n) ⊎ (look_of ls qs n ≡ Some item)
  seen_among [] = inl refl
  seen_among (q ∷ qs) =
      ⊎_elim (λ here. inr (look_step ls q qs n ∙ ap (λ o. option_or o (look_of ls qs n)) (ap (λ r. item_at ls r n) here.0 ∙ is)))
      (λ same. seen_past q qs same (seen_among qs) (item_at ls q n) refl)
      (gone_either ls p q n)

  none_then : (o : Option ItemParts) → is_some o ≡ false → o ≡ None
  none_then None h = refl
  none_then (Some x) h = cc

  -- above the holder there is none
  none_above : (q : ℕ) → has_at ls n q ≡ false → item_at left q n ≡ None
  none_above q free = ⊎_elim (λ here. here.1) (λ same. same ∙ none_then (item_at ls q n) free) (gone_either ls p q n)

  below_by : (b : Bool) (q : ℕ) (qs : List ℕ) → has_at ls n q ≡ b → cond b (Some q) (holder_of ls qs n) ≡ Some p
      → (holder_of ls qs n ≡ Some p → (look_of left qs n ≡ look_below_of ls qs n) ⊎ (look_below_of ls qs n ≡ Some item))
      → (look_of left (q ∷ qs) n ≡ look_below_of ls (q ∷ qs) n) ⊎ (look_below_of ls (q ∷ qs) n ≡ Some item)
  below_by true q qs has at rest =
      let same : q ≡ p = cc in
      let below : look_below_of ls (q ∷ qs) n ≡ look_of ls qs n = ap (λ rs. look_of ls rs n) (after_first_step (has_at ls n) q qs ∙ ap (λ b. cond b qs (after_first (has_at ls n) qs)) has) in
      let then' : look_of left (q ∷ qs) n ≡ look_of left qs n = look_step left q qs n ∙ ap (λ o. option_or o (look_of left qs n)) (ap (λ r. item_at left r n) same ∙ gone_at ls p n) in
      ⊎_elim (λ rest. inl (then' ∙ rest ∙ sym below)) (λ seen. inr (below ∙ seen)) (seen_among qs)
  below_by false q qs free at rest =
      let below : look_below_of ls (q ∷ qs) n ≡ look_below_of ls qs n = ap (λ rs. look_of ls rs n) (after_first_step (has_at ls n) q qs ∙ ap (λ b. cond b qs (after_first (has_at ls n) qs)) free) in
      let then' : look_of left (q ∷ qs) n ≡ look_of left qs n = look_step left q qs n ∙ ap (λ o. option_or o (look_of left qs n)) (none_above q free) in
      ⊎_elim (λ rest. inl (then' ∙ rest ∙ sym below)) (λ seen. inr (below ∙ seen)) (rest at)

  -- what was below is seen, or the item itself was below too
  pub below_seen : (qs : List ℕ) → holder_of ls qs n ≡ Some p → (look_of left qs n ≡ look_below_of ls qs n) ⊎ (look_below_of ls qs n ≡ Some item)
  below_seen [] at = cc
  below_seen (q ∷ qs) at = below_by (has_at ls n q) q qs refl at (below_seen qs)
