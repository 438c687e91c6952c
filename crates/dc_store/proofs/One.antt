-- Apart from backups a write changes at most one layer, by what the operation makes of the item that is seen.
use Rattle.std.proofs.Common.{◌≡◌, ℕ, true, false, List, [], ◌∷◌, ◌++◌, Option, Some, None, is_some, refl, sym, ap, subst, ◌∙◌, inl, inr}
use Rattle.std.specs.Prelude.{◌⊎◌, slice_get, option_and_then, unwrap_or, if◌then◌else◌}
use Rattle.std.specs.List.{Contains, AllByRecursion}
use Rattle.std.proofs.lemmas.List.{append_assoc}
use Rattle.std.proofs.lemmas.List.Elements.{Contains-append_left, Contains-append_right}
use Rattle.dc_conf.specs.Plans.{leaves, leaves_of, all_places, seconds, seconds_of}
use Rattle.dc_conf.specs.Trees.{Tree, Trees, Leaf, Stack, Backup, Debug, End, More}
use Rattle.dc_item.specs.After.{after_at, after_none}
use Rattle.dc_item.specs.Item.{ItemParts}
use Rattle.dc_item.specs.declared.op.After.TheVariants.{Same, Gone}
use Rattle.dc_item.specs.declared.op.After.{After}
use Rattle.dc_item.specs.declared.op.Op.TheVariants.{Put, SetField, DropField, SetFlag, SetVar, AddOwner, DropOwners}
use Rattle.dc_item.specs.declared.op.Op.{Op}
use Rattle.dc_template.specs.declared.kinds.Kind.{Kind}
use Rattle.dc_layer.specs.State.{LayerState}
use Rattle.dc_store.specs.Holders.{item_at, has_at, holder_of, look_of}
use Rattle.dc_store.specs.Plans.{StoreState, or_else, put_above, backup_op, told_line, then_told, write, write_held, write_first, look, holds}
use Rattle.dc_store.specs.StoreLaws.{AreAlikeBut, IsHigh, IsTaken}
use Rattle.dc_store.specs.Writes.{put_at, is_open_at}
use Rattle.dc_store.proofs.Joins.{look_first, look_second}
use Rattle.dc_store.proofs.Walks.{mapped, either, chosen, none_is, above_by, leaf_by, tried_by, write_elsewhere}

-- ---- which places changed

pub alike_then : (ps : List ℕ) (a b c : List LayerState) → AreAlikeBut ps a b → AreAlikeBut ps b c → AreAlikeBut ps a c
alike_then ps a b c x y q d = y q d ∙ x q d

pub alike_less : (ps qs : List ℕ) (a b : List LayerState) → ((q : ℕ) → Contains ps q → Contains qs q) → AreAlikeBut ps a b → AreAlikeBut qs a b
alike_less ps qs a b more x q d = x q (λ c. d (more q c))

-- ---- no place above has the item

high_one : (ls : List LayerState) (n : List ℕ) (p : ℕ) → IsHigh ls (p ∷ []) n p
high_one ls n p = record { higher = []; lower = []; stands = refl; others = tt }

high_left : (ls : List LayerState) (n : List ℕ) (xs ys : List ℕ) (p : ℕ) → IsHigh ls xs n p → IsHigh ls (xs ++ ys) n p
high_left ls n xs ys p h = record { higher = h.higher; lower = h.lower ++ ys; stands = ap (λ zs. zs ++ ys) h.stands ∙ append_assoc h.higher (p ∷ h.lower) ys; others = h.others }

none_has : (ls : List LayerState) (n : List ℕ) (xs more : List ℕ) → is_some (holder_of ls xs n) ≡ false → AllByRecursion (λ p. has_at ls n p ≡ false) more → AllByRecursion (λ p. has_at ls n p ≡ false) (xs ++ more)
none_has ls n [] more h all = all
none_has ls n (x ∷ xs) more h all =
    elim (has_at ls n x) as (λ b. has_at ls n x ≡ b → is_some (if b then Some x else holder_of ls xs n) ≡ false → (has_at ls n x ≡ false) × AllByRecursion (λ p. has_at ls n p ≡ false) (xs ++ more)) [
      | true ↦ λ e f. cc
      | false ↦ λ e f. (e, none_has ls n xs more f all)
    ] refl h

high_right : (ls : List LayerState) (n : List ℕ) (xs ys : List ℕ) (p : ℕ) → is_some (holder_of ls xs n) ≡ false → IsHigh ls ys n p → IsHigh ls (xs ++ ys) n p
high_right ls n xs ys p none h =
    record { higher = xs ++ h.higher; lower = h.lower; stands = ap (λ zs. xs ++ zs) h.stands ∙ sym (append_assoc xs h.higher (p ∷ h.lower)); others = none_has ls n xs h.higher none h.others }

-- nothing changed, or one layer did
abbrev pub One : List ℕ → List ℕ → List LayerState → List ℕ → Option Kind → After → List LayerState → Type 0
One ps secs ls n k made new =
    ((made ≡ Same) × AreAlikeBut secs ls new) ⊎ ((p : ℕ) × IsHigh ls ps n p × (is_open_at ls n k p ≡ true) × (made ≡ Gone → has_at ls n p ≡ true) × AreAlikeBut secs (put_at ls p n made) new)

wider : (ps qs secs more : List ℕ) (ls new : List LayerState) (n : List ℕ) (k : Option Kind) (made : After)
    → ((q : ℕ) → IsHigh ls ps n q → IsHigh ls qs n q) → ((q : ℕ) → Contains secs q → Contains more q) → One ps secs ls n k made new → One qs more ls n k made new
wider ps qs secs more ls new n k made f g (inl x) = inl (x.0, alike_less secs more ls new g x.1)
wider ps qs secs more ls new n k made f g (inr x) = inr (x.0, f x.0 x.1, x.2, x.3, alike_less secs more (put_at ls x.0 n made) new g x.4)

-- more was written to the second plan
then_more : (ps secs extra : List ℕ) (ls mid new : List LayerState) (n : List ℕ) (k : Option Kind) (made : After) → One ps secs ls n k made mid → AreAlikeBut extra mid new → One ps (secs ++ extra) ls n k made new
then_more ps secs extra ls mid new n k made (inl x) y =
    inl (x.0, alike_then (secs ++ extra) ls mid new (alike_less secs (secs ++ extra) ls mid (λ q c. Contains-append_left secs extra q c) x.1) (alike_less extra (secs ++ extra) mid new (λ q c. Contains-append_right secs extra q c) y))
then_more ps secs extra ls mid new n k made (inr x) y =
    inr (
      x.0,
      x.1,
      x.2,
      x.3,
      alike_then (secs ++ extra) (put_at ls x.0 n made) mid new (alike_less secs (secs ++ extra) (put_at ls x.0 n made) mid (λ q c. Contains-append_left secs extra q c) x.4)
          (alike_less extra (secs ++ extra) mid new (λ q c. Contains-append_right secs extra q c) y),
    )

-- ---- what a child that holds the item sees, and one that doesn't

pub held_look : (ls : List LayerState) (n : List ℕ) (xs ys : List ℕ) → is_some (holder_of ls xs n) ≡ true → look_of ls (xs ++ ys) n ≡ look_of ls xs n
held_look ls n xs ys h = by_holder (holder_of ls xs n) refl h where
  by_holder : (o : Option ℕ) → holder_of ls xs n ≡ o → is_some o ≡ true → look_of ls (xs ++ ys) n ≡ look_of ls xs n
  by_holder None e h = cc
  by_holder (Some p) e h = look_first ls n xs ys p e

pub no_holder : (ls : List LayerState) (n : List ℕ) (xs : List ℕ) → is_some (holder_of ls xs n) ≡ false → holder_of ls xs n ≡ None
no_holder ls n xs h = by_holder (holder_of ls xs n) h where
  by_holder : (o : Option ℕ) → is_some o ≡ false → o ≡ None
  by_holder None h = refl
  by_holder (Some p) h = cc

pub unheld_look : (ls : List LayerState) (n : List ℕ) (xs ys : List ℕ) → is_some (holder_of ls xs n) ≡ false → look_of ls (xs ++ ys) n ≡ look_of ls ys n
unheld_look ls n xs ys h = look_second ls n xs ys (no_holder ls n xs h)

pub unheld_none : (ls : List LayerState) (n : List ℕ) (xs : List ℕ) → is_some (holder_of ls xs n) ≡ false → look_of ls xs n ≡ None
unheld_none ls n xs h = ap (option_and_then (λ q. item_at ls q n)) (no_holder ls n xs h)

-- the place of a leaf sees its own item
pub leaf_look : (ls : List LayerState) (n : List ℕ) (p : ℕ) → look_of ls (p ∷ []) n ≡ item_at ls p n
leaf_look ls n p = by_item (item_at ls p n) refl where
  by_item : (o : Option ItemParts) → item_at ls p n ≡ o → look_of ls (p ∷ []) n ≡ item_at ls p n
  by_item None e = cc
  by_item (Some i) e = cc

-- an item that goes was there
gone_has : (op : Op) (o : Option ItemParts) → after_at op o ≡ Gone → is_some o ≡ true
gone_has op (Some item) h = refl
gone_has (Put item) None h = cc
gone_has (SetField key value) None h = cc
gone_has (DropField key) None h = cc
gone_has (SetFlag flag is_set) None h = cc
gone_has (SetVar key value) None h = cc
gone_has (AddOwner owner) None h = cc
gone_has (DropOwners owners) None h = cc

module _ (n : List ℕ) (k : Option Kind) where
  same_one : (ps secs : List ℕ) (s new : StoreState) (made : After) → made ≡ Same → s ≡ new → One ps secs s.layers n k made new.layers
  same_one ps secs s new made same is = inl (same, λ q d. ap (λ (u : StoreState). slice_get u.layers q) (sym is))

  mutual
    pub one : (plan : Tree) (s new : StoreState) (op : Op) → write s plan n k op ≡ Some new
        → One (leaves plan) (seconds plan) s.layers n k (after_at op (look s.layers plan n)) new.layers
    one (Leaf place) s new op h =
        subst (λ o. One (place ∷ []) [] s.layers n k (after_at op o) new.layers) (sym (leaf_look s.layers n place))
        (leaf_by s place n k (after_at op (item_at s.layers place n)) new h (λ same is. same_one (place ∷ []) [] s new (after_at op (item_at s.layers place n)) same is)
        (λ c o is. inr (place, high_one s.layers n place, o, gone_has op (item_at s.layers place n), λ q d. ap (λ (u : StoreState). slice_get u.layers q) (sym is))))
    one (Stack plans) s new op h =
        either (write_held s plans n k op) (put_above s (after_at op (look_of s.layers (leaves_of plans) n)) (λ put. write_first s plans n k put)) new h
        (λ held. one_held plans s new op held)
        (λ none two. above_by s (after_at op (look_of s.layers (leaves_of plans) n)) (λ put. write_first s plans n k put) new two
        (λ same is. same_one (leaves_of plans) (seconds_of plans) s new (after_at op (look_of s.layers (leaves_of plans) n)) same is)
        (λ item made put. subst (λ a. One (leaves_of plans) (seconds_of plans) s.layers n k a new.layers) (sym made) (one_first plans s new (Put item) put)))
    one (Backup first second) s new op h =
        mapped (λ t. unwrap_or (option_and_then (λ o. write t second n k o) (backup_op (look t.layers first n) (look t.layers second n))) t) (write s first n k op) new h
        (λ t w is. subst (λ (u : StoreState). One (leaves first) (seconds first ++ all_places second) s.layers n k (after_at op (look s.layers first n)) u.layers) is
        (then_more (leaves first) (seconds first) (all_places second) s.layers t.layers _ n k (after_at op (look s.layers first n)) (one first s t op w)
        (tried_by (λ u. AreAlikeBut (all_places second) t.layers u.layers) t (λ o. write t second n k o) (backup_op (look t.layers first n) (look t.layers second n)) (λ q d. refl)
        (λ o u two. write_elsewhere t u second n k o two))))
    one (Debug plan) s new op h =
        mapped (then_told (told_line op n)) (write s plan n k op) new h
        (λ t w is. subst (λ (u : StoreState). One (leaves plan) (seconds plan) s.layers n k (after_at op (look s.layers plan n)) u.layers) is (one plan s t op w))

    pub one_held : (plans : Trees) (s new : StoreState) (op : Op) → write_held s plans n k op ≡ Some new
        → One (leaves_of plans) (seconds_of plans) s.layers n k (after_at op (look_of s.layers (leaves_of plans) n)) new.layers
    one_held End s new op h = none_is new h
    one_held (More plan plans) s new op h =
        chosen (holds s.layers plan n) (write s plan n k op) (write_held s plans n k op) new h
        (λ b w. subst (λ o. One (leaves plan ++ leaves_of plans) (seconds plan ++ seconds_of plans) s.layers n k (after_at op o) new.layers) (sym (held_look s.layers n (leaves plan) (leaves_of plans) b))
        (wider (leaves plan) (leaves plan ++ leaves_of plans) (seconds plan) (seconds plan ++ seconds_of plans) s.layers new.layers n k (after_at op (look s.layers plan n))
        (λ x c. high_left s.layers n (leaves plan) (leaves_of plans) x c) (λ x c. Contains-append_left (seconds plan) (seconds_of plans) x c) (one plan s new op w)))
        (λ b w. subst (λ o. One (leaves plan ++ leaves_of plans) (seconds plan ++ seconds_of plans) s.layers n k (after_at op o) new.layers) (sym (unheld_look s.layers n (leaves plan) (leaves_of plans) b))
        (wider (leaves_of plans) (leaves plan ++ leaves_of plans) (seconds_of plans) (seconds plan ++ seconds_of plans) s.layers new.layers n k (after_at op (look_of s.layers (leaves_of plans) n))
        (λ x c. high_right s.layers n (leaves plan) (leaves_of plans) x b c) (λ x c. Contains-append_right (seconds plan) (seconds_of plans) x c) (one_held plans s new op w)))

    pub one_first : (plans : Trees) (s new : StoreState) (op : Op) → write_first s plans n k op ≡ Some new
        → One (leaves_of plans) (seconds_of plans) s.layers n k (after_none op) new.layers
    one_first End s new op h = none_is new h
    one_first (More plan plans) s new op h =
        chosen (holds s.layers plan n) None (or_else (write s plan n k op) (write_first s plans n k op)) new h (λ b none. none_is new none)
        (λ b w. either (write s plan n k op) (write_first s plans n k op) new w
        (λ here. wider (leaves plan) (leaves plan ++ leaves_of plans) (seconds plan) (seconds plan ++ seconds_of plans) s.layers new.layers n k (after_none op)
        (λ x c. high_left s.layers n (leaves plan) (leaves_of plans) x c) (λ x c. Contains-append_left (seconds plan) (seconds_of plans) x c)
        (subst (λ o. One (leaves plan) (seconds plan) s.layers n k (after_at op o) new.layers) (unheld_none s.layers n (leaves plan) b) (one plan s new op here)))
        (λ none below. wider (leaves_of plans) (leaves plan ++ leaves_of plans) (seconds_of plans) (seconds plan ++ seconds_of plans) s.layers new.layers n k (after_none op)
        (λ x c. high_right s.layers n (leaves plan) (leaves_of plans) x b c) (λ x c. Contains-append_right (seconds plan) (seconds_of plans) x c) (one_first plans s new op below)))

pub taken : (s new : StoreState) (plan : Tree) (n : List ℕ) (k : Option Kind) (op : Op) → write s plan n k op ≡ Some new → IsTaken s.layers plan n k (after_at op (look s.layers plan n)) new.layers
taken s new plan n k op h =
    elim (one n k plan s new op h) [ inl x ↦ inl x | inr x ↦ inr (record { place = x.0; high = x.1; takes = x.2; had = x.3; leaves = x.4 }) ]
