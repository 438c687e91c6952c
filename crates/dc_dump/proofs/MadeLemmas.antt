-- What is seen in a plan of which a write is taken that makes an item of what is seen there.
use Rattle.std.proofs.Common.{◌≡◌, ℕ, zero, suc, Bool, true, false, cond, List, [], ◌∷◌, ◌++◌, Option, Some, None, is_some, refl, sym, ap, subst, ◌∙◌, inl, inr, ⊎_elim}
use Rattle.std.specs.Prelude.{◌&&◌, ◌⊎◌, option_and_then, unwrap_or, if◌then◌else◌}
use Rattle.std.specs.Cmp.Lexicographic.{nat_list_cmp_total}
use Rattle.std.specs.FinMap as map
use Rattle.std.specs.Option.{option_or}
use Rattle.std.proofs.lemmas.Cmp.{eq_by_cmp_equiv}
use Rattle.dc_text.specs.Bytes.{is_nil}
use Rattle.dc_conf.specs.Plans.{leaves, leaves_of}
use Rattle.dc_conf.specs.Trees.{Tree, Trees, Leaf, Stack, Backup, Debug, End, More}
use Rattle.dc_item.proofs.AfterLemmas.{parts_eq-Decides}
use Rattle.dc_item.specs.After.{after_at, drops_owners, parts_eq}
use Rattle.dc_item.specs.Item.{ItemParts}
use Rattle.dc_item.specs.declared.op.After.{After}
use Rattle.dc_item.specs.declared.op.After.TheVariants.{Same, Changed, Gone}
use Rattle.dc_item.specs.declared.op.Op.{Op}
use Rattle.dc_item.specs.declared.op.Op.TheVariants.{Put}
use Rattle.dc_template.specs.declared.kinds.Kind.{Kind}
use Rattle.dc_layer.specs.State.{LayerState}
use Rattle.dc_store.proofs.One.{held_look, leaf_look, unheld_look}
use Rattle.dc_store.proofs.Searches.{look_step}
use Rattle.dc_store.proofs.SeenLemmas.{same_name}
use Rattle.dc_store.proofs.Walks.{above_by, chosen, either, leaf_by, mapped, none_is}
use Rattle.dc_store.specs.Holders.{has_at, holder_of, item_at, look_of}
use Rattle.dc_store.specs.Plans.{StoreState, backup_op, holds, look, or_else, put_above, then_told, told_line, write, write_first, write_held}
use Rattle.dc_store.specs.Writes.{is_change, is_open_at, put_at}

-- ---- what an operation makes

module _ (item : ItemParts) where
  -- the operation makes the item of what is found, or leaves that, which is the item already
  abbrev pub Makes : Op → Option ItemParts → Type 0
  Makes op found = (after_at op found ≡ Changed item) ⊎ ((after_at op found ≡ Same) × (found ≡ Some item))

  pub put_makes : (found : Option ItemParts) → Makes (Put item) found
  put_makes None = inl refl
  put_makes (Some parts) = by_test (parts_eq item parts) refl where
    by_test : (b : Bool) → parts_eq item parts ≡ b → ((if b then Same else if drops_owners (Put item) && is_nil (map.keys item.owners) then Gone else Changed item) ≡ Changed item)
        ⊎ (((if b then Same else if drops_owners (Put item) && is_nil (map.keys item.owners) then Gone else Changed item) ≡ Same) × (Some parts ≡ Some item))
    by_test true e = inr (refl, ap (λ i. Some i) (sym ((parts_eq-Decides item parts).0 e)))
    by_test false e = inl refl

  same_there : (op : Op) (found : Option ItemParts) → Makes op found → after_at op found ≡ Same → found ≡ Some item
  same_there op found (inl made) same = let bad : Changed item ≡ Same = sym made ∙ same in absurd (cc)
  same_there op found (inr is) same = is.1

  change_is : (op : Op) (found : Option ItemParts) → Makes op found → is_change (after_at op found) ≡ true → after_at op found ≡ Changed item
  change_is op found (inl made) changes = made
  change_is op found (inr is) changes = let bad : false ≡ true = sym (ap is_change is.0) ∙ changes in absurd (cc)

  item_is : (op : Op) (found : Option ItemParts) (other : ItemParts) → Makes op found → after_at op found ≡ Changed other → other ≡ item
  item_is op found other (inl made) also = let same : Changed other ≡ Changed item = sym also ∙ made in cc
  item_is op found other (inr is) also = let bad : Same ≡ Changed other = sym is.0 ∙ also in absurd (cc)

-- ---- which places have the item

-- a place has the item that was put, or what it had
changed_either : (ls : List LayerState) (p q : ℕ) (n : List ℕ) (item : ItemParts)
    → (item_at (put_at ls p n (Changed item)) q n ≡ Some item) ⊎ (item_at (put_at ls p n (Changed item)) q n ≡ item_at ls q n)
changed_either [] p q n item = inr refl
changed_either (l ∷ ls) zero zero n item =
    inl (map.get-insert nat_list_cmp_total l.table n item n ∙ ap (λ b. cond b (Some item) (map.get l.table n)) ((eq_by_cmp_equiv nat_list_cmp_total).refl n))
changed_either (l ∷ ls) zero (suc q) n item = inr refl
changed_either (l ∷ ls) (suc p) zero n item = inr refl
changed_either (l ∷ ls) (suc p) (suc q) n item = changed_either ls p q n item

-- a place that is open has what was put
put_here : (ls : List LayerState) (p : ℕ) (n : List ℕ) (k : Option Kind) (item : ItemParts) → is_open_at ls n k p ≡ true → item_at (put_at ls p n (Changed item)) p n ≡ Some item
put_here [] p n k item o = cc
put_here (l ∷ ls) zero n k item o = same_name n item l
put_here (l ∷ ls) (suc p) n k item o = put_here ls p n k item o

no_item : (o : Option ItemParts) → is_some o ≡ false → o ≡ None
no_item None h = refl
no_item (Some i) h = absurd (cc)

module _ (n : List ℕ) (item : ItemParts) where
  -- each place has the item, or what it had
  abbrev GetsItem : List LayerState → List LayerState → Type 0
  GetsItem ls new = (p : ℕ) → (item_at new p n ≡ Some item) ⊎ (item_at new p n ≡ item_at ls p n)

  gets_then : (a b c : List LayerState) → GetsItem a b → GetsItem b c → GetsItem a c
  gets_then a b c first second p =
      ⊎_elim (λ made. inl made) (λ same. ⊎_elim (λ made. inl (same ∙ made)) (λ also. inr (same ∙ also)) (first p)) (second p)

  -- where it was seen, it is seen still
  still_seen : (ls new : List LayerState) (qs : List ℕ) → GetsItem ls new → look_of ls qs n ≡ Some item → look_of new qs n ≡ Some item
  still_seen ls new [] gets h = h
  still_seen ls new (q ∷ qs) gets h = by_item (still_seen ls new qs gets) (item_at ls q n) refl (sym (look_step ls q qs n) ∙ h) where
    by_item : (look_of ls qs n ≡ Some item → look_of new qs n ≡ Some item) → (found : Option ItemParts) → item_at ls q n ≡ found
        → option_or (item_at ls q n) (look_of ls qs n) ≡ Some item → look_of new (q ∷ qs) n ≡ Some item
    by_item rest (Some x) e s =
        let behind : Option ItemParts = look_of new qs n in
        look_step new q qs n
        ∙ ⊎_elim (λ here. ap (λ o. option_or o behind) here) (λ same. ap (λ o. option_or o behind) (same ∙ e) ∙ sym (ap (λ o. option_or o (look_of ls qs n)) e) ∙ s) (gets q)
    by_item rest None e s =
        let behind : Option ItemParts = look_of new qs n in
        look_step new q qs n
        ∙ ⊎_elim (λ here. ap (λ o. option_or o behind) here) (λ same. ap (λ o. option_or o behind) (same ∙ e) ∙ rest (sym (ap (λ o. option_or o (look_of ls qs n)) e) ∙ s)) (gets q)

  -- in the first of two lists of places
  held_seen : (ls : List LayerState) (xs ys : List ℕ) → look_of ls xs n ≡ Some item → look_of ls (xs ++ ys) n ≡ Some item
  held_seen ls [] ys h = absurd (cc)
  held_seen ls (x ∷ xs) ys h = look_step ls x (xs ++ ys) n ∙ by_item (item_at ls x n) (held_seen ls xs ys) (sym (look_step ls x xs n) ∙ h) where
    by_item : (o : Option ItemParts) → (look_of ls xs n ≡ Some item → look_of ls (xs ++ ys) n ≡ Some item) → option_or o (look_of ls xs n) ≡ Some item
        → option_or o (look_of ls (xs ++ ys) n) ≡ Some item
    by_item (Some y) rest s = s
    by_item None rest s = rest s

  -- in the second, where no place of the first had an item
  unheld_seen : (ls new : List LayerState) (xs ys : List ℕ) → GetsItem ls new → is_some (holder_of ls xs n) ≡ false → look_of new ys n ≡ Some item → look_of new (xs ++ ys) n ≡ Some item
  unheld_seen ls new [] ys gets none h = h
  unheld_seen ls new (x ∷ xs) ys gets none h = by_test (λ f. unheld_seen ls new xs ys gets f h) (has_at ls n x) refl none where
    by_test : (is_some (holder_of ls xs n) ≡ false → look_of new (xs ++ ys) n ≡ Some item) → (b : Bool) → has_at ls n x ≡ b
        → is_some (if b then Some x else holder_of ls xs n) ≡ false → look_of new (x ∷ (xs ++ ys)) n ≡ Some item
    by_test rest true e f = absurd (cc)
    by_test rest false e f =
        let behind : Option ItemParts = look_of new (xs ++ ys) n in
        look_step new x (xs ++ ys) n
        ∙ ⊎_elim (λ here. ap (λ o. option_or o behind) here) (λ same. ap (λ o. option_or o behind) (same ∙ no_item (item_at ls x n) e) ∙ rest f) (gets x)

  -- ---- what a write leaves

  -- each place has the item, or what it had, and among these places the item is seen
  pub record IsMade (ls new : List LayerState) (places : List ℕ) : Type 0 where
    gets : (p : ℕ) → (item_at new p n ≡ Some item) ⊎ (item_at new p n ≡ item_at ls p n)
    pub seen : look_of new places n ≡ Some item

  stayed : (s new : StoreState) (places : List ℕ) → s ≡ new → look_of s.layers places n ≡ Some item → IsMade s.layers new.layers places
  stayed s new places e h = subst (λ (u : StoreState). IsMade s.layers u.layers places) e (record { gets = λ p. inr refl; seen = h })

  then_made : (a b c : List LayerState) (places others : List ℕ) → IsMade a b places → IsMade b c others → IsMade a c places
  then_made a b c places others first second = record { gets = gets_then a b c first.gets second.gets; seen = still_seen b c places second.gets first.seen }

  made_first_of : (ls new : List LayerState) (xs ys : List ℕ) → IsMade ls new xs → IsMade ls new (xs ++ ys)
  made_first_of ls new xs ys is = record { gets = is.gets; seen = held_seen new xs ys is.seen }

  made_rest_of : (ls new : List LayerState) (xs ys : List ℕ) → is_some (holder_of ls xs n) ≡ false → IsMade ls new ys → IsMade ls new (xs ++ ys)
  made_rest_of ls new xs ys none is = record { gets = is.gets; seen = unheld_seen ls new xs ys is.gets none is.seen }

  put_made : (ls : List LayerState) (p : ℕ) (k : Option Kind) (made : After) → made ≡ Changed item → is_open_at ls n k p ≡ true → IsMade ls (put_at ls p n made) (p ∷ [])
  put_made ls p k made is open' = subst (λ m. IsMade ls (put_at ls p n m) (p ∷ [])) (sym is)
      (record { gets = λ q. changed_either ls p q n item; seen = leaf_look (put_at ls p n (Changed item)) n p ∙ put_here ls p n k item open' })

  -- what is tried next leaves what held, or keeps it
  or_kept : (Q : StoreState → Type 0) (t : StoreState) (o : Option StoreState) → Q t → ((u : StoreState) → o ≡ Some u → Q u) → Q (unwrap_or o t)
  or_kept Q t None here go = here
  or_kept Q t (Some u) here go = go u refl

  module _ (k : Option Kind) where
    mutual
      pub made_by : (plan : Tree) (s new : StoreState) (op : Op) → Makes item op (look s.layers plan n) → write s plan n k op ≡ Some new → IsMade s.layers new.layers (leaves plan)
      made_by (Leaf place) s new op makes h =
          let found : Option ItemParts = item_at s.layers place n in
          let here : Makes item op found = subst (Makes item op) (leaf_look s.layers n place) makes in
          leaf_by s place n k (after_at op found) new h
          (λ same is. stayed s new (place ∷ []) is (leaf_look s.layers n place ∙ same_there item op found here same))
          (λ changes open' is. subst (λ (u : StoreState). IsMade s.layers u.layers (place ∷ [])) is (put_made s.layers place k (after_at op found) (change_is item op found here changes) open'))
      made_by (Stack plans) s new op makes h =
          let found : Option ItemParts = look_of s.layers (leaves_of plans) n in
          either (write_held s plans n k op) (put_above s (after_at op found) (λ put. write_first s plans n k put)) new h
          (λ held. made_held plans s new op makes held)
          (λ none two. above_by s (after_at op found) (λ put. write_first s plans n k put) new two
          (λ same is. stayed s new (leaves_of plans) is (same_there item op found makes same))
          (λ other made put. made_above plans s new (subst (λ i. write_first s plans n k (Put i) ≡ Some new) (item_is item op found other makes made) put)))
      made_by (Backup first second) s new op makes h =
          mapped (λ t. unwrap_or (option_and_then (λ o. write t second n k o) (backup_op (look t.layers first n) (look t.layers second n))) t) (write s first n k op) new h
          (λ t w is.
          let one : IsMade s.layers t.layers (leaves first) = made_by first s t op makes w in
          let kept : IsMade s.layers (unwrap_or (write t second n k (Put item)) t).layers (leaves first) =
          or_kept (λ (u : StoreState). IsMade s.layers u.layers (leaves first)) t (write t second n k (Put item)) one
          (λ u two. then_made s.layers t.layers u.layers (leaves first) (leaves second) one (made_by second t u (Put item) (put_makes item (look t.layers second n)) two)) in
          subst (λ (u : StoreState). IsMade s.layers u.layers (leaves first)) is
          (subst (λ found. IsMade s.layers (unwrap_or (option_and_then (λ o. write t second n k o) (backup_op found (look t.layers second n))) t).layers (leaves first)) (sym one.seen) kept))
      made_by (Debug plan) s new op makes h =
          mapped (then_told (told_line op n)) (write s plan n k op) new h (λ t w is. subst (λ (u : StoreState). IsMade s.layers u.layers (leaves plan)) is (made_by plan s t op makes w))

      made_held : (plans : Trees) (s new : StoreState) (op : Op) → Makes item op (look_of s.layers (leaves_of plans) n) → write_held s plans n k op ≡ Some new → IsMade s.layers new.layers (leaves_of plans)
      made_held End s new op makes h = none_is new h
      made_held (More plan plans) s new op makes h =
          chosen (holds s.layers plan n) (write s plan n k op) (write_held s plans n k op) new h
          (λ b w. made_first_of s.layers new.layers (leaves plan) (leaves_of plans) (made_by plan s new op (subst (Makes item op) (held_look s.layers n (leaves plan) (leaves_of plans) b) makes) w))
          (λ b w. made_rest_of s.layers new.layers (leaves plan) (leaves_of plans) b (made_held plans s new op (subst (Makes item op) (unheld_look s.layers n (leaves plan) (leaves_of plans) b) makes) w))

      made_above : (plans : Trees) (s new : StoreState) → write_first s plans n k (Put item) ≡ Some new → IsMade s.layers new.layers (leaves_of plans)
      made_above End s new h = none_is new h
      made_above (More plan plans) s new h =
          chosen (holds s.layers plan n) None (or_else (write s plan n k (Put item)) (write_first s plans n k (Put item))) new h (λ b none. none_is new none)
          (λ b w. either (write s plan n k (Put item)) (write_first s plans n k (Put item)) new w
          (λ here. made_first_of s.layers new.layers (leaves plan) (leaves_of plans) (made_by plan s new (Put item) (put_makes item (look s.layers plan n)) here))
          (λ none below. made_rest_of s.layers new.layers (leaves plan) (leaves_of plans) b (made_above plans s new below)))
