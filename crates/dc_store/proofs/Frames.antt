-- What no write changes.
use Rattle.std.proofs.Common.{◌≡◌, ℕ, zero, suc, false, cond, List, [], ◌∷◌, length, map, Option, Some, None, refl, sym, ap, subst, ◌∙◌}
use Rattle.std.specs.declared.cmp.Ordering.TheVariants.{Less, Equal, Greater}
use Rattle.std.specs.Ordering.{is_eq, eq_by_cmp}
use Rattle.std.specs.Cmp.Lexicographic.{nat_list_cmp_total}
use Rattle.std.proofs.lemmas.List.{length-map}
use Rattle.std.specs.FinMap as fin_map
use Rattle.dc_text.specs.Maps.{text_cmp}
use Rattle.dc_item.specs.declared.op.Op.{Op}
use Rattle.dc_item.specs.declared.op.After.{After}
use Rattle.dc_item.specs.declared.op.After.TheVariants.{Same, Changed, Gone}
use Rattle.dc_item.specs.After.{after_at}
use Rattle.dc_template.specs.declared.kinds.Kind.{Kind}
use Rattle.dc_layer.specs.State.{LayerState, with_made}
use Rattle.dc_store.specs.Holders.{look_of}
use Rattle.dc_store.specs.Plans.{StoreState}
use Rattle.dc_store.specs.StoreLaws.{IsSameBut, AreSameBut, IsSameStoreBut}
use Rattle.dc_store.specs.Writes.{copy_target, put_at, writable_holder, by_case, write_of}

-- names that differ don't tie
apart : (q k : List ℕ) → (q ≡ k → ⊥) → eq_by_cmp text_cmp q k ≡ false
apart q k other =
    elim (text_cmp q k) as (λ o. text_cmp q k ≡ o → is_eq o ≡ false) [
      | Less ↦ λ _. refl
      | Equal ↦ λ e. absurd (other (fin_map.slice_cmp-IsAntisymmetric fin_map.nat_cmp-IsAntisymmetric q k e))
      | Greater ↦ λ _. refl
    ] refl

pub same_layer : (n : List ℕ) (l : LayerState) → IsSameBut n l l
same_layer n l = record { sort = refl; spec = refl; left_out = refl; text = refl; items = λ other d. refl }

pub same_then : (n : List ℕ) (a b c : LayerState) → IsSameBut n a b → IsSameBut n b c → IsSameBut n a c
same_then n a b c p q = record {
  sort = q.sort ∙ p.sort;
  spec = q.spec ∙ p.spec;
  left_out = q.left_out ∙ p.left_out;
  text = q.text ∙ p.text;
  items = λ other d. q.items other d ∙ p.items other d;
}

pub same_layers : (n : List ℕ) (ls : List LayerState) → AreSameBut n ls ls
same_layers n [] = tt
same_layers n (l ∷ ls) = (same_layer n l, same_layers n ls)

pub same_layers_then : (n : List ℕ) (xs ys zs : List LayerState) → AreSameBut n xs ys → AreSameBut n ys zs → AreSameBut n xs zs
same_layers_then n [] [] [] p q = tt
same_layers_then n [] [] (c ∷ cs) p q = absurd q
same_layers_then n [] (b ∷ bs) cs p q = absurd p
same_layers_then n (a ∷ rest) [] cs p q = absurd p
same_layers_then n (a ∷ rest) (b ∷ bs) [] p q = absurd q
same_layers_then n (a ∷ rest) (b ∷ bs) (c ∷ cs) p q = (same_then n a b c p.0 q.0, same_layers_then n rest bs cs p.1 q.1)

made_same : (n : List ℕ) (l : LayerState) (made : After) → IsSameBut n l (with_made l n made)
made_same n l Same = same_layer n l
made_same n l (Changed item) = record {
  sort = refl;
  spec = refl;
  left_out = refl;
  text = refl;
  items = λ other d. fin_map.get-insert nat_list_cmp_total l.table n item other ∙ ap (λ b. cond b (Some item) (fin_map.get l.table other)) (apart other n d);
}
made_same n l Gone = record {
  sort = refl;
  spec = refl;
  left_out = refl;
  text = refl;
  items = λ other d. fin_map.get-remove nat_list_cmp_total l.table n other ∙ ap (λ b. cond b None (fin_map.get l.table other)) (apart other n d);
}

pub put_same : (n : List ℕ) (ls : List LayerState) (p : ℕ) (made : After) → AreSameBut n ls (put_at ls p n made)
put_same n [] p made = tt
put_same n (l ∷ ls) zero made = (made_same n l made, same_layers n ls)
put_same n (l ∷ ls) (suc p) made = (same_layer n l, put_same n ls p made)

along : (n : List ℕ) (ls xs ys : List LayerState) → Some xs ≡ Some ys → AreSameBut n ls xs → AreSameBut n ls ys
along n ls xs ys e h = let same : xs ≡ ys = cc in subst (AreSameBut n ls) same h

none_is : {P : Type 0} (bs : List LayerState) → None ≡ Some bs → P
none_is bs e = cc

written_same : (n : List ℕ) (ls : List LayerState) (held up : Option ℕ) (made : After) (new : List LayerState) → by_case ls held up n made ≡ Some new → AreSameBut n ls new
written_same n ls held up Same new h = along n ls ls new h (same_layers n ls)
written_same n ls None up Gone new h = none_is new h
written_same n ls (Some p) up Gone new h = along n ls (put_at ls p n Gone) new h (put_same n ls p Gone)
written_same n ls None None (Changed item) new h = none_is new h
written_same n ls None (Some p) (Changed item) new h = along n ls (put_at ls p n (Changed item)) new h (put_same n ls p (Changed item))
written_same n ls (Some p) up (Changed item) new h = along n ls (put_at ls p n (Changed item)) new h (put_same n ls p (Changed item))

pub write_keeps : (ls new : List LayerState) (ps n : List ℕ) (k : Option Kind) (op : Op) → write_of ls ps n k op ≡ Some new → AreSameBut n ls new
write_keeps ls new ps n k op h = written_same n ls (writable_holder ls ps n) (copy_target ls ps n k) (after_at op (look_of ls ps n)) new h

-- layers that are the same but for one item are as many
as_many : (n : List ℕ) (xs ys : List LayerState) → AreSameBut n xs ys → length ys ≡ length xs
as_many n [] [] same = refl
as_many n [] (y ∷ ys) same = absurd same
as_many n (x ∷ xs) [] same = absurd same
as_many n (x ∷ xs) (y ∷ ys) same = ap suc (as_many n xs ys same.1)

pub framed : (n : List ℕ) (old new : StoreState) → AreSameBut n old.layers new.layers → IsSameStoreBut n old new
framed n old new same = record { others = same; count = as_many n old.layers new.layers same }

-- as many layers have as many boxes
pub same_count : {A : Type 0} (f : A → LayerState) (xs ys : List A) → length (map f ys) ≡ length (map f xs) → length ys ≡ length xs
same_count f xs ys same = sym (length-map ys f) ∙ same ∙ length-map xs f

-- from equations that a contract gives
pub kept : (n : List ℕ) (ls new : List LayerState) → new ≡ ls → AreSameBut n ls new
kept n ls new e = subst (AreSameBut n ls) (sym e) (same_layers n ls)
