-- A copy goes to the innermost stack that has a taking place above the holder, and there to the topmost.
use Rattle.std.proofs.Common.{◌≡◌, ℕ, true, false, List, [], ◌∷◌, ◌++◌, Option, Some, None, is_some, refl, sym, ap, subst, ◌∙◌}
use Rattle.std.specs.Prelude.{slice_get, option_map, option_and_then, unwrap_or, if◌then◌else◌}
use Rattle.std.specs.Option.{option_or}
use Rattle.std.specs.List.{find, Contains}
use Rattle.std.proofs.lemmas.List.Elements.{Contains-append_left, Contains-append_right}
use Rattle.std.proofs.lemmas.List.Folds.{find-append}
use Rattle.dc_conf.specs.Plans.{leaves, leaves_of, all_places, seconds, seconds_of}
use Rattle.dc_conf.specs.Trees.{Tree, Trees, Leaf, Stack, Backup, Debug, End, More}
use Rattle.dc_item.specs.After.{after_at}
use Rattle.dc_item.specs.Item.{ItemParts}
use Rattle.dc_item.specs.declared.op.After.TheVariants.{Changed}
use Rattle.dc_item.specs.declared.op.Op.TheVariants.{Put}
use Rattle.dc_item.specs.declared.op.Op.{Op}
use Rattle.dc_template.specs.declared.kinds.Kind.{Kind}
use Rattle.dc_layer.specs.State.{LayerState}
use Rattle.dc_store.specs.Copies.{copy_place, copy_place_held, leaves_above}
use Rattle.dc_store.specs.Holders.{item_at, has_at, holder_of, look_of}
use Rattle.dc_store.specs.Plans.{StoreState, stored, leaf_written, or_else, put_above, backup_op, told_line, then_told, write, write_held, write_first, look, holds, holder}
use Rattle.dc_store.specs.StoreLaws.{AreAlikeBut}
use Rattle.dc_store.specs.Writes.{is_writable_at, takes_at, put_at}
use Rattle.dc_store.proofs.Joins.{holder_first, holder_second}
use Rattle.dc_store.proofs.One.{alike_then, alike_less, leaf_look, held_look, unheld_look, no_holder}
use Rattle.dc_store.proofs.Plain.{one_place, home_put, home_lands, none_held, none_both}
use Rattle.dc_store.proofs.Searches.{find_passes}
use Rattle.dc_store.proofs.Walks.{mapped, either, chosen, none_is, tried_by, write_elsewhere}

-- what is put goes to the place, apart from second plans
abbrev Goes : List ℕ → List LayerState → List ℕ → ItemParts → Option ℕ → List LayerState → Type 0
Goes secs ls n item o new = (p : ℕ) × (o ≡ Some p) × AreAlikeBut secs (put_at ls p n (Changed item)) new

goes_more : (secs more : List ℕ) (ls new : List LayerState) (n : List ℕ) (item : ItemParts) (o q : Option ℕ) → ((x : ℕ) → Contains secs x → Contains more x) → ((p : ℕ) → o ≡ Some p → q ≡ Some p)
    → Goes secs ls n item o new → Goes more ls n item q new
goes_more secs more ls new n item o q f g x = (x.0, g x.0 x.1, alike_less secs more (put_at ls x.0 n (Changed item)) new f x.2)

goes_then : (secs extra : List ℕ) (ls mid new : List LayerState) (n : List ℕ) (item : ItemParts) (o : Option ℕ) → Goes secs ls n item o mid → AreAlikeBut extra mid new → Goes (secs ++ extra) ls n item o new
goes_then secs extra ls mid new n item o x y = (
  x.0,
  x.1,
  alike_then (secs ++ extra) (put_at ls x.0 n (Changed item)) mid new (alike_less secs (secs ++ extra) (put_at ls x.0 n (Changed item)) mid (λ q c. Contains-append_left secs extra q c) x.2)
      (alike_less extra (secs ++ extra) mid new (λ q c. Contains-append_right secs extra q c) y),
)

neither : (a b : Option StoreState) → or_else a b ≡ None → (a ≡ None) × (b ≡ None)
neither None b h = (refl, h)
neither (Some s) b h = cc

unmapped : (f : StoreState → StoreState) (o : Option StoreState) → option_map f o ≡ None → o ≡ None
unmapped f None h = refl
unmapped f (Some s) h = cc

or_first : (o rest : Option ℕ) (p : ℕ) → o ≡ Some p → option_or o rest ≡ Some p
or_first o rest p e = ap (λ x. option_or x rest) e

or_none : (a b : Option ℕ) → a ≡ None → b ≡ None → option_or a b ≡ None
or_none a b e f = ap (λ x. option_or x b) e ∙ f

module _ (n : List ℕ) (k : Option Kind) where
  -- ---- where no place holds it

  home_leaf : (x : ℕ) (s new : StoreState) (item : ItemParts) → holder_of s.layers (x ∷ []) n ≡ None → write s (Leaf x) n k (Put item) ≡ Some new → Goes [] s.layers n item (find (takes_at s.layers n k) (x ∷ [])) new.layers
  home_leaf x s new item none h = by_place (find (takes_at s.layers n k) (x ∷ [])) (sym (home_lands s n k (Leaf x) item refl none) ∙ h) where
    by_place : (o : Option ℕ) → home_put s n k item o ≡ Some new → Goes [] s.layers n item o new.layers
    by_place None e = cc
    by_place (Some p) e = let same : stored (put_at s.layers p n (Changed item)) s.told ≡ new = cc in (p, refl, λ q d. ap (λ (u : StoreState). slice_get u.layers q) (sym same))

  home_leaf_gone : (x : ℕ) (s : StoreState) (item : ItemParts) → holder_of s.layers (x ∷ []) n ≡ None → write s (Leaf x) n k (Put item) ≡ None → find (takes_at s.layers n k) (x ∷ []) ≡ None
  home_leaf_gone x s item none h = by_place (find (takes_at s.layers n k) (x ∷ [])) (sym (home_lands s n k (Leaf x) item refl none) ∙ h) where
    by_place : (o : Option ℕ) → home_put s n k item o ≡ None → o ≡ None
    by_place None e = refl
    by_place (Some p) e = cc

  above_are_all : (ls : List LayerState) (ts : Trees) → holder_of ls (leaves_of ts) n ≡ None → leaves_above ls ts n ≡ leaves_of ts
  above_are_all ls End none = refl
  above_are_all ls (More t ts) none =
      let split = none_both (stored ls []) n k (leaves t) (leaves_of ts) none in
      ap (λ o. if is_some o then [] else leaves t ++ leaves_above ls ts n) split.0 ∙ ap (λ xs. leaves t ++ xs) (above_are_all ls ts split.1)

  -- a stack of which no child holds it puts it to the first that takes it
  stack_home : (ts : Trees) (s : StoreState) (item : ItemParts) → holder_of s.layers (leaves_of ts) n ≡ None → write s (Stack ts) n k (Put item) ≡ write_first s ts n k (Put item)
  stack_home ts s item none =
      let unseen = ap (option_and_then (λ q. item_at s.layers q n)) none in
      λ i. or_else (none_held s n k ts (Put item) none i) (put_above s (after_at (Put item) (unseen i)) (λ put. write_first s ts n k put))

  mutual
    home_goes : (t : Tree) (s new : StoreState) (item : ItemParts) → holder_of s.layers (leaves t) n ≡ None → write s t n k (Put item) ≡ Some new → Goes (seconds t) s.layers n item (find (takes_at s.layers n k) (leaves t)) new.layers
    home_goes (Leaf x) s new item none h = home_leaf x s new item none h
    home_goes (Stack ts) s new item none h =
        subst (λ xs. Goes (seconds_of ts) s.layers n item (find (takes_at s.layers n k) xs) new.layers) (above_are_all s.layers ts none) (first_goes ts s new item (sym (stack_home ts s item none) ∙ h))
    home_goes (Backup first second) s new item none h =
        mapped (λ t. unwrap_or (option_and_then (λ o. write t second n k o) (backup_op (look t.layers first n) (look t.layers second n))) t) (write s first n k (Put item)) new h
        (λ t w is. subst (λ (u : StoreState). Goes (seconds first ++ all_places second) s.layers n item (find (takes_at s.layers n k) (leaves first)) u.layers) is
        (goes_then (seconds first) (all_places second) s.layers t.layers _ n item (find (takes_at s.layers n k) (leaves first)) (home_goes first s t item none w)
        (tried_by (λ u. AreAlikeBut (all_places second) t.layers u.layers) t (λ o. write t second n k o) (backup_op (look t.layers first n) (look t.layers second n)) (λ q d. refl)
        (λ o u two. write_elsewhere t u second n k o two))))
    home_goes (Debug t) s new item none h =
        mapped (then_told (told_line (Put item) n)) (write s t n k (Put item)) new h
        (λ u w is. subst (λ (v : StoreState). Goes (seconds t) s.layers n item (find (takes_at s.layers n k) (leaves t)) v.layers) is (home_goes t s u item none w))

    home_gone : (t : Tree) (s : StoreState) (item : ItemParts) → holder_of s.layers (leaves t) n ≡ None → write s t n k (Put item) ≡ None → find (takes_at s.layers n k) (leaves t) ≡ None
    home_gone (Leaf x) s item none h = home_leaf_gone x s item none h
    home_gone (Stack ts) s item none h = ap (find (takes_at s.layers n k)) (sym (above_are_all s.layers ts none)) ∙ first_gone ts s item (sym (stack_home ts s item none) ∙ h)
    home_gone (Backup first second) s item none h = home_gone first s item none (unmapped _ (write s first n k (Put item)) h)
    home_gone (Debug t) s item none h = home_gone t s item none (unmapped (then_told (told_line (Put item) n)) (write s t n k (Put item)) h)

    first_goes : (ts : Trees) (s new : StoreState) (item : ItemParts) → write_first s ts n k (Put item) ≡ Some new → Goes (seconds_of ts) s.layers n item (find (takes_at s.layers n k) (leaves_above s.layers ts n)) new.layers
    first_goes End s new item h = none_is new h
    first_goes (More t ts) s new item h =
        let takes = takes_at s.layers n k in
        chosen (holds s.layers t n) None (or_else (write s t n k (Put item)) (write_first s ts n k (Put item))) new h (λ b none. none_is new none)
        (λ b w.
        let none = no_holder s.layers n (leaves t) b in
        let all : find takes (leaves_above s.layers (More t ts) n) ≡ option_or (find takes (leaves t)) (find takes (leaves_above s.layers ts n)) =
        ap (λ o. find takes (if is_some o then [] else leaves t ++ leaves_above s.layers ts n)) none ∙ find-append takes (leaves t) (leaves_above s.layers ts n) in
        either (write s t n k (Put item)) (write_first s ts n k (Put item)) new w
        (λ here. goes_more (seconds t) (seconds t ++ seconds_of ts) s.layers new.layers n item (find takes (leaves t)) (find takes (leaves_above s.layers (More t ts) n)) (λ x c. Contains-append_left (seconds t) (seconds_of ts) x c)
        (λ p e. all ∙ or_first (find takes (leaves t)) (find takes (leaves_above s.layers ts n)) p e) (home_goes t s new item none here))
        (λ refused rest. goes_more (seconds_of ts) (seconds t ++ seconds_of ts) s.layers new.layers n item (find takes (leaves_above s.layers ts n)) (find takes (leaves_above s.layers (More t ts) n))
        (λ x c. Contains-append_right (seconds t) (seconds_of ts) x c) (λ p e. all ∙ (ap (λ o. option_or o (find takes (leaves_above s.layers ts n))) (home_gone t s item none refused) ∙ e)) (first_goes ts s new item rest)))

    first_gone : (ts : Trees) (s : StoreState) (item : ItemParts) → write_first s ts n k (Put item) ≡ None → find (takes_at s.layers n k) (leaves_above s.layers ts n) ≡ None
    first_gone End s item h = refl
    first_gone (More t ts) s item h =
        elim (holder_of s.layers (leaves t) n) as (λ found. holder_of s.layers (leaves t) n ≡ found → (if is_some found then None else or_else (write s t n k (Put item)) (write_first s ts n k (Put item))) ≡ None
        → find (takes_at s.layers n k) (if is_some found then [] else leaves t ++ leaves_above s.layers ts n) ≡ None) [
          | Some q ↦ λ e f. refl
          | None ↦ λ e f.
              let both = neither (write s t n k (Put item)) (write_first s ts n k (Put item)) f in
              find-append (takes_at s.layers n k) (leaves t) (leaves_above s.layers ts n) ∙ or_none (find (takes_at s.layers n k) (leaves t)) (find (takes_at s.layers n k) (leaves_above s.layers ts n)) (home_gone t s item e both.0) (first_gone ts s item both.1)
        ] refl h

  -- ---- where the holder isn't writable

  leaf_closed : (x : ℕ) (s : StoreState) (op : Op) (item : ItemParts) (h : ℕ) → holder_of s.layers (x ∷ []) n ≡ Some h → is_writable_at s.layers h ≡ false → after_at op (look_of s.layers (x ∷ []) n) ≡ Changed item
      → write s (Leaf x) n k op ≡ None
  leaf_closed x s op item h at closed made =
      let same = one_place s n k x h at in
      let has : has_at s.layers n x ≡ true = ap (has_at s.layers n) same ∙ find_passes (has_at s.layers n) (x ∷ []) h at in
      ap (leaf_written s x n k) (ap (after_at op) (sym (leaf_look s.layers n x)) ∙ made)
      ∙ (ap (λ b. if (if b then is_writable_at s.layers x else takes_at s.layers n k x) then Some (stored (put_at s.layers x n (Changed item)) s.told) else None) has
      ∙ ap (λ b. if b then Some (stored (put_at s.layers x n (Changed item)) s.told) else None) (ap (is_writable_at s.layers) same ∙ closed))

  mutual
    copy_goes : (t : Tree) (s new : StoreState) (op : Op) (item : ItemParts) (h : ℕ) → holder_of s.layers (leaves t) n ≡ Some h → is_writable_at s.layers h ≡ false → after_at op (look s.layers t n) ≡ Changed item
        → write s t n k op ≡ Some new → Goes (seconds t) s.layers n item (copy_place s.layers t n k) new.layers
    copy_goes (Leaf x) s new op item h at closed made w = none_is new (sym (leaf_closed x s op item h at closed made) ∙ w)
    copy_goes (Stack ts) s new op item h at closed made w =
        let above = find (takes_at s.layers n k) (leaves_above s.layers ts n) in
        either (write_held s ts n k op) (put_above s (after_at op (look_of s.layers (leaves_of ts) n)) (λ put. write_first s ts n k put)) new w
        (λ held. goes_more (seconds_of ts) (seconds_of ts) s.layers new.layers n item (copy_place_held s.layers ts n k) (copy_place s.layers (Stack ts) n k) (λ x c. c)
        (λ p e. or_first (copy_place_held s.layers ts n k) above p e) (copy_goes_held ts s new op item h at closed made held))
        (λ refused two. goes_more (seconds_of ts) (seconds_of ts) s.layers new.layers n item above (copy_place s.layers (Stack ts) n k) (λ x c. c)
        (λ p e. ap (λ o. option_or o above) (copy_gone_held ts s op item h at closed made refused) ∙ e)
        (first_goes ts s new item (ap (λ m. put_above s m (λ put. write_first s ts n k put)) (sym made) ∙ two)))
    copy_goes (Backup first second) s new op item h at closed made w =
        mapped (λ t. unwrap_or (option_and_then (λ o. write t second n k o) (backup_op (look t.layers first n) (look t.layers second n))) t) (write s first n k op) new w
        (λ t one is. subst (λ (u : StoreState). Goes (seconds first ++ all_places second) s.layers n item (copy_place s.layers first n k) u.layers) is
        (goes_then (seconds first) (all_places second) s.layers t.layers _ n item (copy_place s.layers first n k) (copy_goes first s t op item h at closed made one)
        (tried_by (λ u. AreAlikeBut (all_places second) t.layers u.layers) t (λ o. write t second n k o) (backup_op (look t.layers first n) (look t.layers second n)) (λ q d. refl)
        (λ o u two. write_elsewhere t u second n k o two))))
    copy_goes (Debug t) s new op item h at closed made w =
        mapped (then_told (told_line op n)) (write s t n k op) new w
        (λ u one is. subst (λ (v : StoreState). Goes (seconds t) s.layers n item (copy_place s.layers t n k) v.layers) is (copy_goes t s u op item h at closed made one))

    copy_gone : (t : Tree) (s : StoreState) (op : Op) (item : ItemParts) (h : ℕ) → holder_of s.layers (leaves t) n ≡ Some h → is_writable_at s.layers h ≡ false → after_at op (look s.layers t n) ≡ Changed item
        → write s t n k op ≡ None → copy_place s.layers t n k ≡ None
    copy_gone (Leaf x) s op item h at closed made w = refl
    copy_gone (Stack ts) s op item h at closed made w =
        let both = neither (write_held s ts n k op) (put_above s (after_at op (look_of s.layers (leaves_of ts) n)) (λ put. write_first s ts n k put)) w in
        or_none (copy_place_held s.layers ts n k) (find (takes_at s.layers n k) (leaves_above s.layers ts n)) (copy_gone_held ts s op item h at closed made both.0)
        (first_gone ts s item (ap (λ m. put_above s m (λ put. write_first s ts n k put)) (sym made) ∙ both.1))
    copy_gone (Backup first second) s op item h at closed made w = copy_gone first s op item h at closed made (unmapped _ (write s first n k op) w)
    copy_gone (Debug t) s op item h at closed made w = copy_gone t s op item h at closed made (unmapped (then_told (told_line op n)) (write s t n k op) w)

    copy_goes_held : (ts : Trees) (s new : StoreState) (op : Op) (item : ItemParts) (h : ℕ) → holder_of s.layers (leaves_of ts) n ≡ Some h → is_writable_at s.layers h ≡ false
        → after_at op (look_of s.layers (leaves_of ts) n) ≡ Changed item → write_held s ts n k op ≡ Some new → Goes (seconds_of ts) s.layers n item (copy_place_held s.layers ts n k) new.layers
    copy_goes_held End s new op item h at closed made w = none_is new w
    copy_goes_held (More t ts) s new op item h at closed made w =
        elim (holder_of s.layers (leaves t) n) as (λ found. holder_of s.layers (leaves t) n ≡ found → (if is_some found then write s t n k op else write_held s ts n k op) ≡ Some new
        → Goes (seconds t ++ seconds_of ts) s.layers n item (if is_some found then copy_place s.layers t n k else copy_place_held s.layers ts n k) new.layers) [
          | Some q ↦ λ e f.
              goes_more (seconds t) (seconds t ++ seconds_of ts) s.layers new.layers n item (copy_place s.layers t n k) (copy_place s.layers t n k) (λ x c. Contains-append_left (seconds t) (seconds_of ts) x c) (λ p g. g)
              (copy_goes t s new op item h (e ∙ (sym (holder_first s.layers n (leaves t) (leaves_of ts) q e) ∙ at)) closed (ap (after_at op) (sym (held_look s.layers n (leaves t) (leaves_of ts) (ap is_some e))) ∙ made) f)
          | None ↦ λ e f.
              goes_more (seconds_of ts) (seconds t ++ seconds_of ts) s.layers new.layers n item (copy_place_held s.layers ts n k) (copy_place_held s.layers ts n k) (λ x c. Contains-append_right (seconds t) (seconds_of ts) x c) (λ p g. g)
              (copy_goes_held ts s new op item h (sym (holder_second s.layers n (leaves t) (leaves_of ts) e) ∙ at) closed (ap (after_at op) (sym (unheld_look s.layers n (leaves t) (leaves_of ts) (ap is_some e))) ∙ made) f)
        ] refl w

    copy_gone_held : (ts : Trees) (s : StoreState) (op : Op) (item : ItemParts) (h : ℕ) → holder_of s.layers (leaves_of ts) n ≡ Some h → is_writable_at s.layers h ≡ false
        → after_at op (look_of s.layers (leaves_of ts) n) ≡ Changed item → write_held s ts n k op ≡ None → copy_place_held s.layers ts n k ≡ None
    copy_gone_held End s op item h at closed made w = refl
    copy_gone_held (More t ts) s op item h at closed made w =
        elim (holder_of s.layers (leaves t) n) as (λ found. holder_of s.layers (leaves t) n ≡ found → (if is_some found then write s t n k op else write_held s ts n k op) ≡ None
        → (if is_some found then copy_place s.layers t n k else copy_place_held s.layers ts n k) ≡ None) [
          | Some q ↦ λ e f.
              copy_gone t s op item h (e ∙ (sym (holder_first s.layers n (leaves t) (leaves_of ts) q e) ∙ at)) closed (ap (after_at op) (sym (held_look s.layers n (leaves t) (leaves_of ts) (ap is_some e))) ∙ made) f
          | None ↦ λ e f.
              copy_gone_held ts s op item h (sym (holder_second s.layers n (leaves t) (leaves_of ts) e) ∙ at) closed (ap (after_at op) (sym (unheld_look s.layers n (leaves t) (leaves_of ts) (ap is_some e))) ∙ made) f
        ] refl w

pub copies_inmost : (s new : StoreState) (t : Tree) (n : List ℕ) (k : Option Kind) (op : Op) (item : ItemParts) (h : ℕ) → holder s.layers t n ≡ Some h → is_writable_at s.layers h ≡ false
    → after_at op (look s.layers t n) ≡ Changed item → write s t n k op ≡ Some new
    → (p : ℕ) × (copy_place s.layers t n k ≡ Some p) × AreAlikeBut (seconds t) (put_at s.layers p n (Changed item)) new.layers
copies_inmost s new t n k op item h at closed made w = copy_goes n k t s new op item h at closed made w

pub copies_nowhere : (s : StoreState) (t : Tree) (n : List ℕ) (k : Option Kind) (op : Op) (item : ItemParts) (h : ℕ) → holder s.layers t n ≡ Some h → is_writable_at s.layers h ≡ false
    → after_at op (look s.layers t n) ≡ Changed item → write s t n k op ≡ None → copy_place s.layers t n k ≡ None
copies_nowhere s t n k op item h at closed made w = copy_gone n k t s op item h at closed made w
