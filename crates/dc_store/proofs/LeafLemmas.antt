-- One layer written.
use Rattle.std.proofs.Common.{◌≡◌, ℕ, zero, suc, true, List, [], ◌∷◌, Option, Some, None, is_some, length, refl, sym, ap, subst, ◌∙◌}
use Rattle.std.specs.Prelude.{slice_get, if◌then◌else◌}
use Rattle.dc_item.specs.After.{after_at, after_none}
use Rattle.dc_item.specs.Item.{ItemParts}
use Rattle.dc_item.specs.declared.op.After.TheVariants.{Same, Changed, Gone}
use Rattle.dc_item.specs.declared.op.After.{After}
use Rattle.dc_item.specs.declared.op.Op.TheVariants.{Put, SetField, DropField, SetFlag, SetVar, AddOwner, DropOwners}
use Rattle.dc_item.specs.declared.op.Op.{Op}
use Rattle.dc_template.specs.declared.kinds.Kind.{Kind}
use Rattle.dc_layer.specs.State.{LayerState, with_made, made_at, refusal}
use Rattle.dc_store.specs.Holders.{item_at, has_at}
use Rattle.dc_store.specs.Plans.{StoreState, stored, leaf_written}
use Rattle.dc_store.specs.StoreLaws.{AreSameBut}
use Rattle.dc_store.specs.Writes.{is_writable_at, takes_at, change_at, put_at, is_open_at, is_change}
use Rattle.dc_store.proofs.Frames.{put_same}
use Rattle.dc_store.proofs.Searches.{held_taken, put_taken}

-- a layer's own change is what the operation makes of its item, put there
pub change_made : (ls : List LayerState) (p : ℕ) (n : List ℕ) (op : Op) → change_at ls p (λ layer. with_made layer n (made_at layer n op)) ≡ put_at ls p n (after_at op (item_at ls p n))
change_made [] p n op = refl
change_made (l ∷ ls) zero n op = refl
change_made (l ∷ ls) (suc p) n op = ap (λ xs. l ∷ xs) (change_made ls p n op)

leaf_put : (s : StoreState) (p : ℕ) (n : List ℕ) (k : Option Kind) (made : After) → is_change made ≡ true → is_open_at s.layers n k p ≡ true
    → leaf_written s p n k made ≡ Some (stored (put_at s.layers p n made) s.told)
leaf_put s p n k Same c o = cc
leaf_put s p n k (Changed item) c o = ap (λ b. if b then Some (stored (put_at s.layers p n (Changed item)) s.told) else None) o
leaf_put s p n k Gone c o = ap (λ b. if b then Some (stored (put_at s.layers p n Gone) s.told) else None) o

-- nothing put changes nothing
pub put_nothing : (ls : List LayerState) (p : ℕ) (n : List ℕ) → put_at ls p n Same ≡ ls
put_nothing [] p n = refl
put_nothing (l ∷ ls) zero n = refl
put_nothing (l ∷ ls) (suc p) n = ap (λ xs. l ∷ xs) (put_nothing ls p n)

pub leaf_open : (s : StoreState) (p : ℕ) (n : List ℕ) (k : Option Kind) (made : After) → is_open_at s.layers n k p ≡ true → leaf_written s p n k made ≡ Some (stored (put_at s.layers p n made) s.told)
leaf_open s p n k Same o = ap (λ ls. Some (stored ls s.told)) (sym (put_nothing s.layers p n))
leaf_open s p n k (Changed item) o = leaf_put s p n k (Changed item) refl o
leaf_open s p n k Gone o = leaf_put s p n k Gone refl o

-- only a put makes an item where there is none
change_put : (op : Op) → is_change (after_none op) ≡ true → (item : ItemParts) × (op ≡ Put item)
change_put (Put item) h = (item, refl)
change_put (SetField key value) h = cc
change_put (DropField key) h = cc
change_put (SetFlag flag is_set) h = cc
change_put (SetVar key value) h = cc
change_put (AddOwner owner) h = cc
change_put (DropOwners owners) h = cc

-- an open layer takes what changes the item
pub open_taken : (ls : List LayerState) (p : ℕ) (n : List ℕ) (k : Option Kind) (op : Op) → is_change (after_at op (item_at ls p n)) ≡ true → is_open_at ls n k p ≡ true
    → (layer : LayerState) → slice_get ls p ≡ Some layer → refusal layer n op ≡ None
open_taken ls p n k op c o = by_item (item_at ls p n) refl where
  by_item : (found : Option ItemParts) → item_at ls p n ≡ found → (layer : LayerState) → slice_get ls p ≡ Some layer → refusal layer n op ≡ None
  by_item (Some item) e =
      let has : has_at ls n p ≡ true = ap is_some e in
      held_taken ls p n op (sym (ap (λ b. if b then is_writable_at ls p else takes_at ls n k p) has) ∙ o) has
  by_item None e =
      let put = change_put op (sym (ap (λ f. is_change (after_at op f)) e) ∙ c) in
      let takes : takes_at ls n k p ≡ true = sym (ap (λ f. if is_some f then is_writable_at ls p else takes_at ls n k p) e) ∙ o in
      subst (λ o. (layer : LayerState) → slice_get ls p ≡ Some layer → refusal layer n o ≡ None) (sym put.1) (put_taken ls p n k put.0 takes)

-- a change of an item that is there, in a layer that is writable
pub held_done : (ls new : List LayerState) (p : ℕ) (n : List ℕ) (op : Op) → is_writable_at ls p ≡ true → has_at ls n p ≡ true → new ≡ change_at ls p (λ layer. with_made layer n (made_at layer n op))
    → (k : Option Kind) (told : List ℕ) → leaf_written (stored ls told) p n k (after_at op (item_at ls p n)) ≡ Some (stored new told)
held_done ls new p n op w h is k told =
    leaf_open (stored ls told) p n k (after_at op (item_at ls p n)) (ap (λ b. if b then is_writable_at ls p else takes_at ls n k p) h ∙ w) ∙ ap (λ xs. Some (stored xs told)) (sym (is ∙ change_made ls p n op))

pub leaf_done : (ls new : List LayerState) (p : ℕ) (n : List ℕ) (k : Option Kind) (op : Op) → is_change (after_at op (item_at ls p n)) ≡ true → is_open_at ls n k p ≡ true
    → new ≡ change_at ls p (λ layer. with_made layer n (made_at layer n op)) → (told : List ℕ) → leaf_written (stored ls told) p n k (after_at op (item_at ls p n)) ≡ Some (stored new told)
leaf_done ls new p n k op c o is told =
    leaf_put (stored ls told) p n k (after_at op (item_at ls p n)) c o ∙ ap (λ xs. Some (stored xs told)) (sym (is ∙ change_made ls p n op))

-- ---- what no write changes

pub changed_same : (n : List ℕ) (ls new : List LayerState) (p : ℕ) (op : Op) → new ≡ change_at ls p (λ layer. with_made layer n (made_at layer n op)) → AreSameBut n ls new
changed_same n ls new p op e = subst (AreSameBut n ls) (sym (e ∙ change_made ls p n op)) (put_same n ls p (after_at op (item_at ls p n)))

pub change_length : (ls : List LayerState) (p : ℕ) (f : LayerState → LayerState) → length (change_at ls p f) ≡ length ls
change_length [] p f = refl
change_length (l ∷ ls) zero f = refl
change_length (l ∷ ls) (suc p) f = ap suc (change_length ls p f)
