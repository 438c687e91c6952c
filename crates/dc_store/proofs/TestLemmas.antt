-- Which writes are taken, and what that rests on.
use Rattle.std.proofs.Common.{◌≡◌, ℕ, zero, suc, Bool, true, false, cond, not, ◌&&◌, ◌||◌, List, [], ◌∷◌, ◌++◌, Option, Some, None, is_some, refl, sym, ap, ◌∙◌, ⊎_elim, arith}
use Rattle.std.specs.Prelude.{slice_get, option_map, option_and_then, if◌then◌else◌}
use Rattle.std.specs.Option.{option_or, option_map_or}
use Rattle.std.specs.List.{AllByRecursion, Contains, after_first}
use Rattle.std.proofs.lemmas.List.Elements.{Contains-append_left, Contains-append_right}
use Rattle.std.specs.FinMap as map
use Rattle.dc_conf.specs.Plans.{leaves, leaves_of, all_places, all_places_of, Everywhere, AllEverywhere}
use Rattle.dc_conf.specs.Trees.{Tree, Trees, Leaf, Stack, Backup, Debug, End, More}
use Rattle.dc_item.specs.After.{after_at}
use Rattle.dc_item.specs.Item.{ItemParts}
use Rattle.dc_item.specs.declared.op.After.TheVariants.{Same, Changed, Gone}
use Rattle.dc_item.specs.declared.op.After.{After}
use Rattle.dc_item.specs.declared.op.Op.{Op}
use Rattle.dc_template.specs.declared.kinds.Kind.{Kind}
use Rattle.dc_layer.specs.State.{LayerState, is_writable, admits}
use Rattle.dc_store.specs.Batches.{Write, AreDistinct, is_refused}
use Rattle.dc_store.specs.Holders.{item_at, has_at, holder_of, look_of, look_below_of}
use Rattle.dc_store.specs.Plans.{StoreState, stored, leaf_written, or_else, put_above, then_told, told_line, write, write_held, write_first, would_take, first_would_take, look, holds}
use Rattle.dc_store.specs.StoreLaws.{AreSameBut}
use Rattle.dc_store.specs.Takes.{takes, takes_held, takes_first, made_takes}
use Rattle.dc_store.specs.Writes.{is_writable_at, takes_at, writable_holder, copy_target, put_target, put_at, is_open_at, is_change}
use Rattle.dc_store.proofs.Searches.{look_step, after_first_step, home_step}
use Rattle.dc_store.proofs.SameLemmas.{writable_same, admits_same}
use Rattle.dc_store.proofs.Walks.{plan_keeps, write_elsewhere}

-- ---- a write is taken exactly where the test says so

some_mapped : (f : StoreState → StoreState) (o : Option StoreState) → is_some (option_map f o) ≡ is_some o
some_mapped f None = refl
some_mapped f (Some s) = refl

some_either : (a b : Option StoreState) → is_some (or_else a b) ≡ (is_some a || is_some b)
some_either None b = refl
some_either (Some s) b = refl

some_above : (s : StoreState) (made : After) (write : Op → Option StoreState) → is_some (put_above s made write) ≡ made_takes made (λ put. is_some (write put))
some_above s Same write = refl
some_above s Gone write = refl
some_above s (Changed item) write = refl

some_chosen : (b : Bool) (x y : Option StoreState) → is_some (if b then x else y) ≡ (if b then is_some x else is_some y)
some_chosen true x y = refl
some_chosen false x y = refl

some_if : (b : Bool) (s : StoreState) → is_some (if b then Some s else None) ≡ b
some_if true s = refl
some_if false s = refl

some_leaf : (s : StoreState) (p : ℕ) (n : List ℕ) (k : Option Kind) (made : After) → is_some (leaf_written s p n k made) ≡ (not (is_change made) || is_open_at s.layers n k p)
some_leaf s p n k Same = refl
some_leaf s p n k Gone = some_if (is_open_at s.layers n k p) (stored (put_at s.layers p n Gone) s.told)
some_leaf s p n k (Changed item) = some_if (is_open_at s.layers n k p) (stored (put_at s.layers p n (Changed item)) s.told)

module _ (n : List ℕ) (k : Option Kind) where
  mutual
    pub tested : (plan : Tree) (s : StoreState) (op : Op) → is_some (write s plan n k op) ≡ takes s.layers plan n k op
    tested (Leaf place) s op = some_leaf s place n k (after_at op (item_at s.layers place n))
    tested (Stack plans) s op =
        let made = after_at op (look_of s.layers (leaves_of plans) n) in
        let rest = put_above s made (λ put. write_first s plans n k put) in
        some_either (write_held s plans n k op) rest
        ∙ (ap (λ b. is_some (write_held s plans n k op) || b) (some_above s made (λ put. write_first s plans n k put))
        ∙ (λ i. tested_held plans s op i || made_takes made (λ put. tested_first plans s put i)))
    tested (Backup first second) s op = some_mapped _ (write s first n k op) ∙ tested first s op
    tested (Debug plan) s op = some_mapped (then_told (told_line op n)) (write s plan n k op) ∙ tested plan s op

    pub tested_held : (plans : Trees) (s : StoreState) (op : Op) → is_some (write_held s plans n k op) ≡ takes_held s.layers plans n k op
    tested_held End s op = refl
    tested_held (More plan plans) s op =
        some_chosen (holds s.layers plan n) (write s plan n k op) (write_held s plans n k op)
        ∙ (λ i. if holds s.layers plan n then tested plan s op i else tested_held plans s op i)

    pub tested_first : (plans : Trees) (s : StoreState) (op : Op) → is_some (write_first s plans n k op) ≡ takes_first s.layers plans n k op
    tested_first End s op = refl
    tested_first (More plan plans) s op =
        some_chosen (holds s.layers plan n) None (or_else (write s plan n k op) (write_first s plans n k op))
        ∙ (ap (λ b. if holds s.layers plan n then false else b) (some_either (write s plan n k op) (write_first s plans n k op))
        ∙ (λ i. if holds s.layers plan n then false else tested plan s op i || tested_first plans s op i))

-- ---- it rests on the items and the openness of the places alone

module _ (ls ms : List LayerState) (n : List ℕ) (k : Option Kind) where
  pub record IsAlikeAt (p : ℕ) : Type 0 where
    pub item : item_at ls p n ≡ item_at ms p n
    pub writable : is_writable_at ls p ≡ is_writable_at ms p
    pub takes : takes_at ls n k p ≡ takes_at ms n k p

  openness : (p : ℕ) → IsAlikeAt p → is_open_at ls n k p ≡ is_open_at ms n k p
  openness p e = λ i. if is_some (e.item i) then e.writable i else e.takes i

  pub HaveSame : List ℕ → Type 0
  HaveSame ps = AllByRecursion (λ p. item_at ls p n ≡ item_at ms p n) ps

  both : (xs ys : List ℕ) → AllByRecursion (λ p. item_at ls p n ≡ item_at ms p n) xs → AllByRecursion (λ p. item_at ls p n ≡ item_at ms p n) ys → AllByRecursion (λ p. item_at ls p n ≡ item_at ms p n) (xs ++ ys)
  both [] ys a b = b
  both (x ∷ xs) ys a b = (a.0, both xs ys a.1 b)

  mutual
    pub same_items : (plan : Tree) → Everywhere IsAlikeAt plan → AllByRecursion (λ p. item_at ls p n ≡ item_at ms p n) (leaves plan)
    same_items (Leaf place) e = (e.item, tt)
    same_items (Stack plans) e = all_same_items plans e
    same_items (Backup first second) e = same_items first e.0
    same_items (Debug plan) e = same_items plan e

    pub all_same_items : (plans : Trees) → AllEverywhere IsAlikeAt plans → AllByRecursion (λ p. item_at ls p n ≡ item_at ms p n) (leaves_of plans)
    all_same_items End e = tt
    all_same_items (More plan plans) e = both (leaves plan) (leaves_of plans) (same_items plan e.0) (all_same_items plans e.1)

  all_both : (xs ys : List ℕ) → AllByRecursion IsAlikeAt xs → AllByRecursion IsAlikeAt ys → AllByRecursion IsAlikeAt (xs ++ ys)
  all_both [] ys a b = b
  all_both (x ∷ xs) ys a b = (a.0, all_both xs ys a.1 b)

  mutual
    pub leaves_alike : (plan : Tree) → Everywhere IsAlikeAt plan → AllByRecursion IsAlikeAt (leaves plan)
    leaves_alike (Leaf place) e = (e, tt)
    leaves_alike (Stack plans) e = all_leaves_alike plans e
    leaves_alike (Backup first second) e = leaves_alike first e.0
    leaves_alike (Debug plan) e = leaves_alike plan e

    all_leaves_alike : (plans : Trees) → AllEverywhere IsAlikeAt plans → AllByRecursion IsAlikeAt (leaves_of plans)
    all_leaves_alike End e = tt
    all_leaves_alike (More plan plans) e = all_both (leaves plan) (leaves_of plans) (leaves_alike plan e.0) (all_leaves_alike plans e.1)

  alike_items : (ps : List ℕ) → AllByRecursion IsAlikeAt ps → AllByRecursion (λ p. item_at ls p n ≡ item_at ms p n) ps
  alike_items [] all = tt
  alike_items (p ∷ ps) all = (all.0.item, alike_items ps all.1)

  pub look_alike : (ps : List ℕ) → AllByRecursion (λ p. item_at ls p n ≡ item_at ms p n) ps → look_of ls ps n ≡ look_of ms ps n
  look_alike [] all = refl
  look_alike (p ∷ ps) all = look_step ls p ps n ∙ ((λ i. option_or (all.0 i) (look_alike ps all.1 i)) ∙ sym (look_step ms p ps n))

  pub holder_alike : (ps : List ℕ) → AllByRecursion (λ p. item_at ls p n ≡ item_at ms p n) ps → holder_of ls ps n ≡ holder_of ms ps n
  holder_alike [] all = refl
  holder_alike (p ∷ ps) all = λ i. if is_some (all.0 i) then Some p else holder_alike ps all.1 i

  pub below_alike : (ps : List ℕ) → AllByRecursion (λ p. item_at ls p n ≡ item_at ms p n) ps → look_below_of ls ps n ≡ look_below_of ms ps n
  below_alike [] all = refl
  below_alike (p ∷ ps) all =
      ap (λ qs. look_of ls qs n) (after_first_step (has_at ls n) p ps)
      ∙ (ap (λ o. look_of ls (cond (is_some o) ps (after_first (has_at ls n) ps)) n) all.0
      ∙ (elim (has_at ms n p) as (λ b. look_of ls (cond b ps (after_first (has_at ls n) ps)) n ≡ look_of ms (cond b ps (after_first (has_at ms n) ps)) n) [
        | true ↦ look_alike ps all.1
        | false ↦ below_alike ps all.1
      ]
      ∙ sym (ap (λ qs. look_of ms qs n) (after_first_step (has_at ms n) p ps))))

  home_alike : (ps : List ℕ) → AllByRecursion IsAlikeAt ps → copy_target ls ps n k ≡ copy_target ms ps n k
  home_alike [] all = refl
  home_alike (p ∷ ps) all =
      home_step ls p ps n k
      ∙ ((λ i. cond (is_some (all.0.item i)) None (cond (all.0.takes i) (Some p) (home_alike ps all.1 i))) ∙ sym (home_step ms p ps n k))

  open_alike : (ps : List ℕ) → AllByRecursion IsAlikeAt ps → writable_holder ls ps n ≡ writable_holder ms ps n
  open_alike [] all = refl
  open_alike (p ∷ ps) all =
      (λ i. option_and_then (λ q. if is_writable_at ls q then Some q else None) (if is_some (all.0.item i) then Some p else holder_of ls ps n))
      ∙ (elim (has_at ms n p) as (λ b. option_and_then (λ q. if is_writable_at ls q then Some q else None) (if b then Some p else holder_of ls ps n)
      ≡ option_and_then (λ q. if is_writable_at ms q then Some q else None) (if b then Some p else holder_of ms ps n)) [
        | true ↦ λ i. if all.0.writable i then Some p else None
        | false ↦ open_alike ps all.1
      ])

  pub landing_alike : (ps : List ℕ) → AllByRecursion IsAlikeAt ps → put_target ls ps n k ≡ put_target ms ps n k
  landing_alike ps all = λ i. if is_some (holder_alike ps (alike_items ps all) i) then open_alike ps all i else home_alike ps all i

  mutual
    pub takes_alike : (plan : Tree) → Everywhere IsAlikeAt plan → (op : Op) → takes ls plan n k op ≡ takes ms plan n k op
    takes_alike (Leaf place) e op = λ i. not (is_change (after_at op (e.item i))) || openness place e i
    takes_alike (Stack plans) e op =
        λ i. held_alike plans e op i || made_takes (after_at op (look_alike (leaves_of plans) (all_same_items plans e) i)) (λ put. first_alike plans e put i)
    takes_alike (Backup first second) e op = takes_alike first e.0 op
    takes_alike (Debug plan) e op = takes_alike plan e op

    held_alike : (plans : Trees) → AllEverywhere IsAlikeAt plans → (op : Op) → takes_held ls plans n k op ≡ takes_held ms plans n k op
    held_alike End e op = refl
    held_alike (More plan plans) e op =
        λ i. if is_some (holder_alike (leaves plan) (same_items plan e.0) i) then takes_alike plan e.0 op i else held_alike plans e.1 op i

    first_alike : (plans : Trees) → AllEverywhere IsAlikeAt plans → (op : Op) → takes_first ls plans n k op ≡ takes_first ms plans n k op
    first_alike End e op = refl
    first_alike (More plan plans) e op =
        λ i. if is_some (holder_alike (leaves plan) (same_items plan e.0) i) then false else takes_alike plan e.0 op i || first_alike plans e.1 op i

-- ---- which writes leave it

mutual
  pub everywhere_from : (P : ℕ → Type 0) (plan : Tree) → ((p : ℕ) → Contains (all_places plan) p → P p) → Everywhere P plan
  everywhere_from P (Leaf place) f = f place (0, omega arith, refl)
  everywhere_from P (Stack plans) f = all_from P plans f
  everywhere_from P (Backup first second) f =
      (everywhere_from P first (λ p c. f p (Contains-append_left (all_places first) (all_places second) p c)), everywhere_from P second (λ p c. f p (Contains-append_right (all_places first) (all_places second) p c)))
  everywhere_from P (Debug plan) f = everywhere_from P plan f

  pub all_from : (P : ℕ → Type 0) (plans : Trees) → ((p : ℕ) → Contains (all_places_of plans) p → P p) → AllEverywhere P plans
  all_from P End f = tt
  all_from P (More plan plans) f =
      (everywhere_from P plan (λ p c. f p (Contains-append_left (all_places plan) (all_places_of plans) p c)), all_from P plans (λ p c. f p (Contains-append_right (all_places plan) (all_places_of plans) p c)))

alike_by_layer : (ls ms : List LayerState) (n : List ℕ) (k : Option Kind) (p : ℕ) → slice_get ms p ≡ slice_get ls p → IsAlikeAt ls ms n k p
alike_by_layer ls ms n k p e = record {
  item = ap (option_and_then (λ (layer : LayerState). map.get layer.table n)) (sym e);
  writable = ap (λ o. option_map_or is_writable o false) (sym e);
  takes = ap (λ o. option_map_or (λ layer. is_writable layer && admits layer n k) o false) (sym e);
}

alike_by_name : (ls ms : List LayerState) (n other : List ℕ) (k : Option Kind) → (other ≡ n → ⊥) → AreSameBut n ls ms → (p : ℕ) → IsAlikeAt ls ms other k p
alike_by_name [] [] n other k d same p = record { item = refl; writable = refl; takes = refl }
alike_by_name [] (m ∷ ms) n other k d same p = absurd same
alike_by_name (l ∷ ls) [] n other k d same p = absurd same
alike_by_name (l ∷ ls) (m ∷ ms) n other k d same zero = record {
  item = sym (same.0.items other d);
  writable = sym (writable_same n l m same.0);
  takes = λ i. sym (writable_same n l m same.0) i && sym (admits_same n other l m k same.0) i;
}
alike_by_name (l ∷ ls) (m ∷ ms) n other k d same (suc p) =
    let below = alike_by_name ls ms n other k d same.1 p in record { item = below.item; writable = below.writable; takes = below.takes }

-- ---- laws

pub test_is : (layers : List LayerState) (plan : Tree) (n : List ℕ) (k : Option Kind) (op : Op) → would_take layers plan n k op ≡ takes layers plan n k op
test_is layers plan n k op = tested n k plan (stored layers []) op

pub taken_is : (s : StoreState) (plan : Tree) (n : List ℕ) (k : Option Kind) (op : Op) → is_some (write s plan n k op) ≡ would_take s.layers plan n k op
taken_is s plan n k op = tested n k plan s op ∙ sym (test_is s.layers plan n k op)

-- the same of a child above
pub first_test_is : (layers : List LayerState) (plans : Trees) (n : List ℕ) (k : Option Kind) (op : Op) → first_would_take layers plans n k op ≡ takes_first layers plans n k op
first_test_is layers plans n k op = tested_first n k plans (stored layers []) op

-- all places of a plan are alike before and after a write on another item
pub all_alike : (s new : StoreState) (v w : Write) → AreDistinct v w → write s v.plan v.name v.kind v.op ≡ Some new → Everywhere (IsAlikeAt s.layers new.layers w.name w.kind) w.plan
all_alike s new v w distinct h =
    ⊎_elim
    (λ d. everywhere_from (IsAlikeAt s.layers new.layers w.name w.kind) w.plan
    (λ place c. alike_by_name s.layers new.layers v.name w.name w.kind (λ e. d (sym e)) (plan_keeps s new v.plan v.name v.kind v.op h) place))
    (λ apart. everywhere_from (IsAlikeAt s.layers new.layers w.name w.kind) w.plan
    (λ place c. alike_by_layer s.layers new.layers w.name w.kind place (write_elsewhere s new v.plan v.name v.kind v.op h place (λ b. apart place b c))))
    distinct

-- a write leaves the tests of all writes on other items
pub tests_apart : (s new : StoreState) (v w : Write) → AreDistinct v w → write s v.plan v.name v.kind v.op ≡ Some new → is_refused new.layers w ≡ is_refused s.layers w
tests_apart s new v w distinct h =
    ap not
    (test_is new.layers w.plan w.name w.kind w.op
    ∙ (sym (takes_alike s.layers new.layers w.name w.kind w.plan (all_alike s new v w distinct h) w.op) ∙ sym (test_is s.layers w.plan w.name w.kind w.op)))

-- ---- what stays as it is is taken

or_true : (b : Bool) → (b || true) ≡ true
or_true true = refl
or_true false = refl

-- the place of a leaf sees its own item
leaf_look : (ls : List LayerState) (n : List ℕ) (p : ℕ) → look_of ls (p ∷ []) n ≡ item_at ls p n
leaf_look ls n p = look_step ls p [] n ∙ or_none (item_at ls p n) where
  or_none : (o : Option ItemParts) → option_or o None ≡ o
  or_none None = refl
  or_none (Some i) = refl

pub same_takes : (plan : Tree) (ls : List LayerState) (n : List ℕ) (k : Option Kind) (op : Op) → after_at op (look ls plan n) ≡ Same → takes ls plan n k op ≡ true
same_takes (Leaf place) ls n k op h = ap (λ m. not (is_change m) || is_open_at ls n k place) (ap (after_at op) (sym (leaf_look ls n place)) ∙ h)
same_takes (Stack plans) ls n k op h =
    ap (λ m. takes_held ls plans n k op || made_takes m (λ put. takes_first ls plans n k put)) h ∙ or_true (takes_held ls plans n k op)
same_takes (Backup first second) ls n k op h = same_takes first ls n k op h
same_takes (Debug plan) ls n k op h = same_takes plan ls n k op h

pub same_taken : (layers : List LayerState) (plan : Tree) (n : List ℕ) (k : Option Kind) (op : Op) → after_at op (look layers plan n) ≡ Same → would_take layers plan n k op ≡ true
same_taken layers plan n k op h = test_is layers plan n k op ∙ same_takes plan layers n k op h
