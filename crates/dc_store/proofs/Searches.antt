-- What the searches find.
use Rattle.std.proofs.Common.{◌≡◌, ℕ, zero, suc, ◌<◌, ◌≤◌, ◌+◌, Bool, true, false, cond, not, ◌&&◌, ◌||◌, nat_eq, List, [], ◌∷◌, Option, Some, None, is_some, refl, sym, ap, subst, ◌∙◌, add-one, arith}
use Rattle.std.specs.Prelude.{slice_get, option_and_then, if◌then◌else◌}
use Rattle.std.specs.Option.{option_or, option_map_or}
use Rattle.std.specs.List.{All, find, list_any, before_first, after_first, prefix_len}
use Rattle.std.proofs.Math.ListN.{drop, get_or, length}
use Rattle.std.proofs.Math.Seq.{drop-cons}
use Rattle.std.proofs.lemmas.Bool.{eq-eqb, eqb-true}
use Rattle.std.proofs.lemmas.List.Elements.{All-head, All-tail, All-take}
use Rattle.std.proofs.lemmas.List.Sums.{take_while-cons}
use Rattle.std.specs.FinMap as map
use Rattle.dc_item.specs.Item.{ItemParts}
use Rattle.dc_item.specs.declared.op.Op.{Op}
use Rattle.dc_item.specs.declared.op.Op.TheVariants.{Put, SetField, DropField, SetFlag, SetVar, AddOwner, DropOwners}
use Rattle.dc_item.specs.declared.op.After.{After}
use Rattle.dc_item.specs.declared.op.After.TheVariants.{Same, Changed, Gone}
use Rattle.dc_item.specs.After.{after_at, after_none}
use Rattle.dc_template.specs.declared.kinds.Kind.{Kind}
use Rattle.dc_layer.specs.State.{LayerState, is_writable, admits, with_made, made_at, refusal, is_put}
use Rattle.dc_layer.specs.declared.layer.LayerError.TheVariants.{ReadOnly, NotHere}
use Rattle.dc_store.specs.Holders.{item_at, has_at, holder_of, look_of, has_below_of}
use Rattle.dc_store.specs.Writes.{is_writable_at, takes_at, writable_holder, copy_target, change_at, put_at, put_up, by_case, write_of}

-- ---- the first of a list

pub find_within : {X : Type 0} (p : X → Bool) (P : X → Type 0) (xs : List X) (x : X) → All P xs → find p xs ≡ Some x → P x
find_within p P [] x all h = cc
find_within p P (y ∷ xs) x all h =
    elim (p y) as (λ b. cond b (Some y) (find p xs) ≡ Some x → P x) [
      | true ↦ λ h. let same : y ≡ x = cc in subst P same (All-head P y xs all)
      | false ↦ λ h. find_within p P xs x (All-tail P y xs all) h
    ] h

pub find_passes : {X : Type 0} (p : X → Bool) (xs : List X) (x : X) → find p xs ≡ Some x → p x ≡ true
find_passes p [] x h = cc
find_passes p (y ∷ xs) x h =
    elim (p y) as (λ b. p y ≡ b → cond b (Some y) (find p xs) ≡ Some x → p x ≡ true) [
      | true ↦ λ e h. let same : y ≡ x = cc in ap p (sym same) ∙ e
      | false ↦ λ e h. find_passes p xs x h
    ] refl h

-- the first that passes one test, among those before the first that passes another
pub find_above : {X : Type 0} (t h : X → Bool) (x : X) (xs : List X) → find t (before_first h (x ∷ xs)) ≡ cond (h x) None (cond (t x) (Some x) (find t (before_first h xs)))
find_above t h x xs = ap (find t) (take_while-cons (λ y. not (h y)) x xs) ∙ cases where
  cases : find t (cond (not (h x)) (x ∷ before_first h xs) []) ≡ cond (h x) None (cond (t x) (Some x) (find t (before_first h xs)))
  cases = elim (h x) as (λ b. find t (cond (not b) (x ∷ before_first h xs) []) ≡ cond b None (cond (t x) (Some x) (find t (before_first h xs)))) [ true ↦ refl | false ↦ refl ]

pub after_first_step : {X : Type 0} (h : X → Bool) (x : X) (xs : List X) → after_first h (x ∷ xs) ≡ cond (h x) xs (after_first h xs)
after_first_step h x xs =
    let m = prefix_len (λ y. not (h y)) xs in
    let more : (1 + m) + 1 ≡ suc (m + 1) = omega arith in
    elim (h x) as (λ b. drop (cond (not b) (1 + m) 0 + 1) (x ∷ xs) ≡ cond b xs (drop (m + 1) xs)) [
      | true ↦ refl
      | false ↦ ap (λ k. drop k (x ∷ xs)) more
    ]

pub above_within : {X : Type 0} (P : X → Type 0) (h : X → Bool) (xs : List X) → All P xs → All P (before_first h xs)
above_within P h xs all = All-take P (prefix_len (λ y. not (h y)) xs) xs all

-- what passes stands above the first that passes the other test, so it doesn't pass that
above_fails_step : {X : Type 0} (t h : X → Bool) (y x : X) (rest : Option X) → (rest ≡ Some x → h x ≡ false)
    → cond (h y) None (cond (t y) (Some y) rest) ≡ Some x → h x ≡ false
above_fails_step t h y x rest then' e =
    elim (h y) as (λ b. h y ≡ b → cond b None (cond (t y) (Some y) rest) ≡ Some x → h x ≡ false) [
      | true ↦ λ has e. absurd (none e)
      | false ↦ λ has e. elim (t y) as (λ b. cond b (Some y) rest ≡ Some x → h x ≡ false) [
        | true ↦ λ e. let same : y ≡ x = cc in ap h (sym same) ∙ has
        | false ↦ λ e. then' e
      ] e
    ] refl e where
      none : None ≡ Some x → ⊥
      none is = cc

pub above_fails : {X : Type 0} (t h : X → Bool) (xs : List X) (x : X) → find t (before_first h xs) ≡ Some x → h x ≡ false
above_fails t h [] x e = cc
above_fails t h (y ∷ xs) x e = above_fails_step t h y x (find t (before_first h xs)) (λ e. above_fails t h xs x e) (sym (find_above t h y xs) ∙ e)

-- ---- the steps of the searches

pub look_step : (ls : List LayerState) (q : ℕ) (ps n : List ℕ) → look_of ls (q ∷ ps) n ≡ option_or (item_at ls q n) (look_of ls ps n)
look_step ls q ps n =
    elim (item_at ls q n) as (λ o. item_at ls q n ≡ o → option_and_then (λ p. item_at ls p n) (cond (is_some o) (Some q) (holder_of ls ps n)) ≡ option_or o (look_of ls ps n)) [
      | None ↦ λ e. refl
      | Some x ↦ λ e. e
    ] refl

pub home_step : (ls : List LayerState) (q : ℕ) (ps n : List ℕ) (k : Option Kind)
    → copy_target ls (q ∷ ps) n k ≡ cond (has_at ls n q) None (cond (takes_at ls n k q) (Some q) (copy_target ls ps n k))
home_step ls q ps n k = find_above (takes_at ls n k) (has_at ls n) q ps

pub below_step : (ls : List LayerState) (q : ℕ) (ps n : List ℕ)
    → has_below_of ls (q ∷ ps) n ≡ cond (has_at ls n q) (list_any (has_at ls n) ps) (has_below_of ls ps n)
below_step ls q ps n = ap (list_any (has_at ls n)) (after_first_step (has_at ls n) q ps) ∙
    (elim (has_at ls n q) as (λ b. list_any (has_at ls n) (cond b ps (after_first (has_at ls n) ps)) ≡ cond b (list_any (has_at ls n) ps) (has_below_of ls ps n)) [ true ↦ refl | false ↦ refl ])

pub any_find : {X : Type 0} (p : X → Bool) (xs : List X) → is_some (find p xs) ≡ list_any p xs
any_find p [] = refl
any_find p (x ∷ xs) = elim (p x) as (λ b. is_some (cond b (Some x) (find p xs)) ≡ (b || list_any p xs)) [ true ↦ refl | false ↦ any_find p xs ]

-- the same at a place of the list
pub home_found : (ls : List LayerState) (ps n : List ℕ) (k : Option Kind) (i : ℕ) → i < length ps → has_at ls n (get_or ps i 0) ≡ false → takes_at ls n k (get_or ps i 0) ≡ true
    → copy_target ls (drop i ps) n k ≡ Some (get_or ps i 0)
home_found ls ps n k i h has takes =
    ap (λ qs. copy_target ls qs n k) (drop-cons ps i 0 h) ∙ home_step ls (get_or ps i 0) (drop (suc i) ps) n k
    ∙ ap (λ b. cond b None (cond (takes_at ls n k (get_or ps i 0)) (Some (get_or ps i 0)) (copy_target ls (drop (suc i) ps) n k))) has
    ∙ ap (λ b. cond b (Some (get_or ps i 0)) (copy_target ls (drop (suc i) ps) n k)) takes

pub home_past : (ls : List LayerState) (ps n : List ℕ) (k : Option Kind) (i : ℕ) → i < length ps → has_at ls n (get_or ps i 0) ≡ false → takes_at ls n k (get_or ps i 0) ≡ false
    → copy_target ls (drop i ps) n k ≡ copy_target ls (drop (i + 1) ps) n k
home_past ls ps n k i h has takes =
    ap (λ qs. copy_target ls qs n k) (drop-cons ps i 0 h) ∙ home_step ls (get_or ps i 0) (drop (suc i) ps) n k
    ∙ ap (λ b. cond b None (cond (takes_at ls n k (get_or ps i 0)) (Some (get_or ps i 0)) (copy_target ls (drop (suc i) ps) n k))) has
    ∙ ap (λ b. cond b (Some (get_or ps i 0)) (copy_target ls (drop (suc i) ps) n k)) takes
    ∙ ap (λ j. copy_target ls (drop j ps) n k) (sym (add-one i))

pub home_none : (ls : List LayerState) (ps n : List ℕ) (k : Option Kind) (i : ℕ) → i < length ps → has_at ls n (get_or ps i 0) ≡ true → copy_target ls (drop i ps) n k ≡ None
home_none ls ps n k i h has =
    ap (λ qs. copy_target ls qs n k) (drop-cons ps i 0 h) ∙ home_step ls (get_or ps i 0) (drop (suc i) ps) n k
    ∙ ap (λ b. cond b None (cond (takes_at ls n k (get_or ps i 0)) (Some (get_or ps i 0)) (copy_target ls (drop (suc i) ps) n k))) has

pub below_found : (ls : List LayerState) (ps n : List ℕ) (i : ℕ) → i < length ps → has_at ls n (get_or ps i 0) ≡ true
    → has_below_of ls (drop i ps) n ≡ list_any (has_at ls n) (drop (i + 1) ps)
below_found ls ps n i h has =
    ap (λ qs. has_below_of ls qs n) (drop-cons ps i 0 h) ∙ below_step ls (get_or ps i 0) (drop (suc i) ps) n
    ∙ ap (λ b. cond b (list_any (has_at ls n) (drop (suc i) ps)) (has_below_of ls (drop (suc i) ps) n)) has
    ∙ ap (λ j. list_any (has_at ls n) (drop j ps)) (sym (add-one i))

pub below_past : (ls : List LayerState) (ps n : List ℕ) (i : ℕ) → i < length ps → has_at ls n (get_or ps i 0) ≡ false
    → has_below_of ls (drop i ps) n ≡ has_below_of ls (drop (i + 1) ps) n
below_past ls ps n i h has =
    ap (λ qs. has_below_of ls qs n) (drop-cons ps i 0 h) ∙ below_step ls (get_or ps i 0) (drop (suc i) ps) n
    ∙ ap (λ b. cond b (list_any (has_at ls n) (drop (suc i) ps)) (has_below_of ls (drop (suc i) ps) n)) has
    ∙ ap (λ j. has_below_of ls (drop j ps) n) (sym (add-one i))

-- ---- a search for the home, where the holder is known

pub is_holder : (ls : List LayerState) (ps n : List ℕ) (i : ℕ) (o : Option ℕ) → o ≡ holder_of ls (drop i ps) n → option_map_or (nat_eq (get_or ps i 0)) o false ≡ true → has_at ls n (get_or ps i 0) ≡ true
is_holder ls ps n i None h at = absurd (cc)
is_holder ls ps n i (Some p) h at = ap (has_at ls n) (eqb-true (get_or ps i 0) p at) ∙ find_passes (has_at ls n) (drop i ps) p (sym h)

other_holder : (q : ℕ) (b : Bool) (o rest : Option ℕ) → o ≡ cond b (Some q) rest → option_map_or (nat_eq q) o false ≡ false → (b ≡ false) × (o ≡ rest)
other_holder q false o rest h at = (refl, h)
other_holder q true o rest h at = absurd (let same : option_map_or (nat_eq q) o false ≡ true = ap (λ o. option_map_or (nat_eq q) o false) h ∙ eq-eqb q q refl in cc)

-- the holder isn't this one, so it is found behind it
pub holder_behind : (ls : List LayerState) (ps n : List ℕ) (i : ℕ) (o : Option ℕ) → i < length ps → o ≡ holder_of ls (drop i ps) n → option_map_or (nat_eq (get_or ps i 0)) o false ≡ false
    → (has_at ls n (get_or ps i 0) ≡ false) × (o ≡ holder_of ls (drop (i + 1) ps) n)
holder_behind ls ps n i o h is at =
    let found = other_holder (get_or ps i 0) (has_at ls n (get_or ps i 0)) o (holder_of ls (drop (suc i) ps) n) (is ∙ ap (λ qs. holder_of ls qs n) (drop-cons ps i 0 h)) at in
    (found.0, found.1 ∙ ap (λ j. holder_of ls (drop j ps) n) (sym (add-one i)))

-- ---- what the holder tells

pub held_open : (ls : List LayerState) (ps n : List ℕ) (p : ℕ) → Some p ≡ holder_of ls ps n → is_writable_at ls p ≡ true → Some p ≡ writable_holder ls ps n
held_open ls ps n p h w = sym (ap (option_and_then (λ q. if is_writable_at ls q then Some q else None)) (sym h) ∙ ap (λ b. if b then Some p else None) w)

pub held_closed : (ls : List LayerState) (ps n : List ℕ) (p : ℕ) → Some p ≡ holder_of ls ps n → is_writable_at ls p ≡ false → None ≡ writable_holder ls ps n
held_closed ls ps n p h w = sym (ap (option_and_then (λ q. if is_writable_at ls q then Some q else None)) (sym h) ∙ ap (λ b. if b then Some p else None) w)

pub none_open : (ls : List LayerState) (ps n : List ℕ) → None ≡ holder_of ls ps n → None ≡ writable_holder ls ps n
none_open ls ps n h = ap (option_and_then (λ q. if is_writable_at ls q then Some q else None)) h

pub none_seen : (ls : List LayerState) (ps n : List ℕ) → None ≡ holder_of ls ps n → None ≡ look_of ls ps n
none_seen ls ps n h = ap (option_and_then (λ q. item_at ls q n)) h

-- ---- where a change is taken

pub holder_look : (ls : List LayerState) (ps n : List ℕ) (p : ℕ) → holder_of ls ps n ≡ Some p → item_at ls p n ≡ look_of ls ps n
holder_look ls ps n p h = ap (option_and_then (λ q. item_at ls q n)) (sym h)

pub open_is_holder : (ls : List LayerState) (o : Option ℕ) (p : ℕ) → option_and_then (λ q. if is_writable_at ls q then Some q else None) o ≡ Some p → (o ≡ Some p) × (is_writable_at ls p ≡ true)
open_is_holder ls None p h = cc
open_is_holder ls (Some q) p h =
    elim (is_writable_at ls q) as (λ b. is_writable_at ls q ≡ b → (if b then Some q else None) ≡ Some p → (Some q ≡ Some p) × (is_writable_at ls p ≡ true)) [
      | true ↦ λ e h. let same : q ≡ p = cc in (h, ap (is_writable_at ls) (sym same) ∙ e)
      | false ↦ λ e h. cc
    ] refl h

none_refused : (w h p : Bool) → w ≡ true → h ≡ true → (if w then (if not h && not p then Some NotHere else None) else Some ReadOnly) ≡ None
none_refused w h p a b = ap (λ x. if x then (if not h && not p then Some NotHere else None) else Some ReadOnly) a ∙ ap (λ x. if not x && not p then Some NotHere else None) b

-- a writable layer that has the item refuses no change of it
pub held_taken : (ls : List LayerState) (p : ℕ) (n : List ℕ) (op : Op) → is_writable_at ls p ≡ true → has_at ls n p ≡ true → (layer : LayerState) → slice_get ls p ≡ Some layer → refusal layer n op ≡ None
held_taken ls p n op w h layer is =
    none_refused (is_writable layer) (is_some (map.get layer.table n)) (is_put op)
    (ap (λ o. option_map_or is_writable o false) (sym is) ∙ w) (ap (λ o. is_some (option_and_then (λ l. map.get l.table n) o)) (sym is) ∙ h)

and_left : (a b : Bool) → (a && b) ≡ true → a ≡ true
and_left true b h = refl
and_left false b h = cc

none_refused_put : (w h : Bool) → w ≡ true → (if w then (if not h && false then Some NotHere else None) else Some ReadOnly) ≡ None
none_refused_put w true a = ap (λ x. if x then None else Some ReadOnly) a
none_refused_put w false a = ap (λ x. if x then None else Some ReadOnly) a

-- a layer that takes the item refuses no new item of its name
pub put_taken : (ls : List LayerState) (p : ℕ) (n : List ℕ) (k : Option Kind) (item : ItemParts) → takes_at ls n k p ≡ true → (layer : LayerState) → slice_get ls p ≡ Some layer → refusal layer n (Put item) ≡ None
put_taken ls p n k item a layer is =
    none_refused_put (is_writable layer) (is_some (map.get layer.table n))
    (and_left (is_writable layer) (admits layer n k) (ap (λ o. option_map_or (λ l. is_writable l && admits l n k) o false) (sym is) ∙ a))

pub same_change : (ls : List LayerState) (p : ℕ) (f g : LayerState → LayerState) → ((layer : LayerState) → slice_get ls p ≡ Some layer → f layer ≡ g layer) → change_at ls p f ≡ change_at ls p g
same_change [] p f g is = refl
same_change (l ∷ ls) zero f g is = ap (λ x. x ∷ ls) (is l refl)
same_change (l ∷ ls) (suc p) f g is = ap (λ xs. l ∷ xs) (same_change ls p f g is)

-- what the layer's own change makes is what the change makes of the item that is seen
pub held_made : (ls : List LayerState) (p : ℕ) (n : List ℕ) (op : Op) (o : Option ItemParts) → item_at ls p n ≡ o → change_at ls p (λ layer. with_made layer n (made_at layer n op)) ≡ put_at ls p n (after_at op o)
held_made ls p n op o is = same_change ls p _ _ (λ layer e. ap (λ x. with_made layer n (after_at op x)) (ap (option_and_then (λ l. map.get l.table n)) (sym e) ∙ is))

none_from : {A : Type 0} (o : Option A) → is_some o ≡ false → o ≡ None
none_from None h = refl
none_from (Some x) h = cc

pub home_made : (ls : List LayerState) (p : ℕ) (n : List ℕ) (item : ItemParts) → has_at ls n p ≡ false → change_at ls p (λ layer. with_made layer n (made_at layer n (Put item))) ≡ put_at ls p n (Changed item)
home_made ls p n item is = held_made ls p n (Put item) None (none_from _ is)

-- ---- a write by the holder

pub open_holder_within : (P : ℕ → Type 0) (ls : List LayerState) (ps n : List ℕ) (p : ℕ) → All P ps → Some p ≡ writable_holder ls ps n → P p
open_holder_within P ls ps n p all h = find_within (has_at ls n) P ps p all (open_is_holder ls (holder_of ls ps n) p (sym h)).0

pub open_holder_taken : (ls : List LayerState) (ps n : List ℕ) (p : ℕ) (op : Op) → Some p ≡ writable_holder ls ps n → (layer : LayerState) → slice_get ls p ≡ Some layer → refusal layer n op ≡ None
open_holder_taken ls ps n p op h =
    let is = open_is_holder ls (holder_of ls ps n) p (sym h) in
    held_taken ls p n op is.1 (find_passes (has_at ls n) ps p is.0)

put_none : (ls : List LayerState) (p : ℕ) (n : List ℕ) → put_at ls p n Same ≡ ls
put_none [] p n = refl
put_none (l ∷ ls) zero n = refl
put_none (l ∷ ls) (suc p) n = ap (λ xs. l ∷ xs) (put_none ls p n)

written_held : (ls : List LayerState) (p : ℕ) (copy_target : Option ℕ) (n : List ℕ) (made : After) → by_case ls (Some p) copy_target n made ≡ Some (put_at ls p n made)
written_held ls p h n Same = ap Some (sym (put_none ls p n))
written_held ls p h n (Changed item) = refl
written_held ls p h n Gone = refl

pub write_held : (ls new : List LayerState) (ps n : List ℕ) (k : Option Kind) (p : ℕ) (op : Op) → Some p ≡ writable_holder ls ps n → new ≡ change_at ls p (λ layer. with_made layer n (made_at layer n op)) → write_of ls ps n k op ≡ Some new
write_held ls new ps n k p op h is =
    let found = open_is_holder ls (holder_of ls ps n) p (sym h) in
    ap (λ o. by_case ls o (copy_target ls ps n k) n (after_at op (look_of ls ps n))) (sym h)
    ∙ written_held ls p (copy_target ls ps n k) n (after_at op (look_of ls ps n))
    ∙ ap Some (sym (held_made ls p n op (look_of ls ps n) (holder_look ls ps n p found.0)) ∙ sym is)

-- ---- a write that no holder takes

pub write_above : (ls : List LayerState) (ps n : List ℕ) (k : Option Kind) (op : Op) (o : Option ItemParts) → None ≡ writable_holder ls ps n → o ≡ look_of ls ps n
    → by_case ls None (copy_target ls ps n k) n (after_at op o) ≡ write_of ls ps n k op
write_above ls ps n k op o h is = λ i. by_case ls (h i) (copy_target ls ps n k) n (after_at op (is i))

pub write_new : (ls : List LayerState) (ps n : List ℕ) (k : Option Kind) (op : Op) → None ≡ holder_of ls ps n → by_case ls None (copy_target ls ps n k) n (after_none op) ≡ write_of ls ps n k op
write_new ls ps n k op h = write_above ls ps n k op None (none_open ls ps n h) (none_seen ls ps n h)

-- ---- an item put up

pub home_within : (P : ℕ → Type 0) (ls : List LayerState) (ps n : List ℕ) (k : Option Kind) (p : ℕ) → All P ps → copy_target ls ps n k ≡ Some p → P p
home_within P ls ps n k p all h = find_within (takes_at ls n k) P (before_first (has_at ls n) ps) p (above_within P (has_at ls n) ps all) h

pub home_taken : (ls : List LayerState) (ps n : List ℕ) (k : Option Kind) (p : ℕ) (item : ItemParts) → Some p ≡ copy_target ls ps n k → (layer : LayerState) → slice_get ls p ≡ Some layer → refusal layer n (Put item) ≡ None
home_taken ls ps n k p item h = put_taken ls p n k item (find_passes (takes_at ls n k) (before_first (has_at ls n) ps) p (sym h))

pub put_up_done : (ls new : List LayerState) (ps n : List ℕ) (k : Option Kind) (p : ℕ) (item : ItemParts) → Some p ≡ copy_target ls ps n k → new ≡ change_at ls p (λ layer. with_made layer n (made_at layer n (Put item))) → put_up ls (copy_target ls ps n k) n item ≡ Some new
put_up_done ls new ps n k p item h is =
    ap (λ o. put_up ls o n item) (sym h) ∙ ap Some (sym (home_made ls p n item (above_fails (takes_at ls n k) (has_at ls n) ps p (sym h))) ∙ sym is)

-- ---- an operation that makes an item, and one that makes none

pub put_is : (op : Op) → is_put op ≡ true → (item : ItemParts) × (op ≡ Put item)
put_is (Put item) is = (item, refl)
put_is (SetField key value) is = absurd (cc)
put_is (DropField key) is = absurd (cc)
put_is (SetFlag flag is_set) is = absurd (cc)
put_is (SetVar key value) is = absurd (cc)
put_is (AddOwner owner) is = absurd (cc)
put_is (DropOwners owners) is = absurd (cc)

pub makes_none : (op : Op) → is_put op ≡ false → Same ≡ after_none op
makes_none (Put item) is = absurd (cc)
makes_none (SetField key value) is = refl
makes_none (DropField key) is = refl
makes_none (SetFlag flag is_set) is = refl
makes_none (SetVar key value) is = refl
makes_none (AddOwner owner) is = refl
makes_none (DropOwners owners) is = refl

pub made_taken : (ls : List LayerState) (ps n : List ℕ) (k : Option Kind) (p : ℕ) (op : Op) → is_put op ≡ true → Some p ≡ copy_target ls ps n k → (layer : LayerState) → slice_get ls p ≡ Some layer → refusal layer n op ≡ None
made_taken ls ps n k p op is h =
    let put = put_is op is in subst (λ o. (layer : LayerState) → slice_get ls p ≡ Some layer → refusal layer n o ≡ None) (sym put.1) (home_taken ls ps n k p put.0 h)

pub made_done : (ls new : List LayerState) (ps n : List ℕ) (k : Option Kind) (p : ℕ) (op : Op) → is_put op ≡ true → Some p ≡ copy_target ls ps n k → new ≡ change_at ls p (λ layer. with_made layer n (made_at layer n op))
    → by_case ls None (copy_target ls ps n k) n (after_none op) ≡ Some new
made_done ls new ps n k p op is h made =
    let put = put_is op is in
    ap (λ o. by_case ls None (copy_target ls ps n k) n (after_none o)) put.1
    ∙ put_up_done ls new ps n k p put.0 h (made ∙ ap (λ o. change_at ls p (λ layer. with_made layer n (made_at layer n o))) put.1)

pub made_refused : (ls : List LayerState) (ps n : List ℕ) (k : Option Kind) (op : Op) → is_put op ≡ true → None ≡ copy_target ls ps n k → by_case ls None (copy_target ls ps n k) n (after_none op) ≡ None
made_refused ls ps n k op is h = let put = put_is op is in λ i. by_case ls None (sym h i) n (after_none (put.1 i))

-- ---- a write to the topmost place

pub top_written : (ls new : List LayerState) (ps n : List ℕ) (k : Option Kind) (op : Op) (d : ℕ) → 1 ≤ length ps → is_writable_at ls (get_or ps 0 d) ≡ true → has_at ls n (get_or ps 0 d) ≡ true
    → new ≡ change_at ls (get_or ps 0 d) (λ layer. with_made layer n (made_at layer n op)) → write_of ls ps n k op ≡ Some new
top_written ls new [] n k op d least writes there is = absurd (omega arith)
top_written ls new (q ∷ ps) n k op d least writes there is =
    let held : holder_of ls (q ∷ ps) n ≡ Some q = ap (λ b. cond b (Some q) (holder_of ls ps n)) there in
    write_held ls new (q ∷ ps) n k q op
    (sym (ap (option_and_then (λ p. if is_writable_at ls p then Some p else None)) held ∙ ap (λ b. if b then Some q else None) writes)) is
