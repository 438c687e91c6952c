-- How a write goes through a plan: what is kept by each change of one layer is kept by a write.
use Rattle.std.proofs.Common.{◌≡◌, ℕ, zero, suc, Bool, true, false, List, [], ◌∷◌, Option, Some, None, refl, ap, subst, ◌∙◌, arith}
use Rattle.std.specs.Prelude.{slice_get, option_map, option_and_then, unwrap_or, if◌then◌else◌}
use Rattle.std.specs.List.{Contains}
use Rattle.std.proofs.lemmas.List.Elements.{Contains-append_left, Contains-append_right}
use Rattle.dc_conf.specs.Plans.{leaves_of, all_places, all_places_of, Everywhere, AllEverywhere}
use Rattle.dc_conf.specs.Trees.{Tree, Trees, Leaf, Stack, Backup, Debug, End, More}
use Rattle.dc_item.specs.After.{after_at}
use Rattle.dc_item.specs.Item.{ItemParts}
use Rattle.dc_item.specs.declared.op.After.TheVariants.{Same, Changed, Gone}
use Rattle.dc_item.specs.declared.op.After.{After}
use Rattle.dc_item.specs.declared.op.Op.TheVariants.{Put}
use Rattle.dc_item.specs.declared.op.Op.{Op}
use Rattle.dc_template.specs.declared.kinds.Kind.{Kind}
use Rattle.dc_layer.specs.State.{LayerState}
use Rattle.dc_store.specs.Holders.{item_at, look_of}
use Rattle.dc_store.specs.Plans.{StoreState, stored, leaf_written, or_else, put_above, backup_op, told_line, then_told, write, write_held, write_first, look, holds}
use Rattle.dc_store.specs.StoreLaws.{AreSameBut, AreAlikeBut}
use Rattle.dc_store.specs.Writes.{put_at, is_open_at, is_change}
use Rattle.dc_store.proofs.Frames.{put_same, same_layers, same_layers_then}

-- ---- where a write that is taken comes from

pub mapped : {Q : Type 0} (f : StoreState → StoreState) (o : Option StoreState) (new : StoreState) → option_map f o ≡ Some new
    → ((s : StoreState) → o ≡ Some s → f s ≡ new → Q) → Q
mapped f None new h go = cc
mapped f (Some s) new h go = go s refl (cc)

pub either : {Q : Type 0} (a b : Option StoreState) (new : StoreState) → or_else a b ≡ Some new → (a ≡ Some new → Q) → (a ≡ None → b ≡ Some new → Q) → Q
either None b new h one two = two refl h
either (Some s) b new h one two = one h

pub chosen : {Q : Type 0} (b : Bool) (x y : Option StoreState) (new : StoreState) → (if b then x else y) ≡ Some new → (b ≡ true → x ≡ Some new → Q) → (b ≡ false → y ≡ Some new → Q) → Q
chosen true x y new h one two = one refl h
chosen false x y new h one two = two refl h

pub none_is : {P : Type 0} (new : StoreState) → None ≡ Some new → P
none_is new h = cc

pub above_by : {Q : Type 0} (s : StoreState) (made : After) (write : Op → Option StoreState) (new : StoreState) → put_above s made write ≡ Some new
    → (made ≡ Same → s ≡ new → Q) → ((item : ItemParts) → made ≡ Changed item → write (Put item) ≡ Some new → Q) → Q
above_by s Same write new h same changed = same refl (cc)
above_by s Gone write new h same changed = none_is new h
above_by s (Changed item) write new h same changed = changed item refl h

pub leaf_by : {Q : Type 0} (s : StoreState) (p : ℕ) (n : List ℕ) (k : Option Kind) (made : After) (new : StoreState) → leaf_written s p n k made ≡ Some new
    → (made ≡ Same → s ≡ new → Q) → (is_change made ≡ true → is_open_at s.layers n k p ≡ true → stored (put_at s.layers p n made) s.told ≡ new → Q) → Q
leaf_by s p n k Same new h same changed = same refl (cc)
leaf_by s p n k Gone new h same changed = chosen (is_open_at s.layers n k p) (Some (stored (put_at s.layers p n Gone) s.told)) None new h (λ o e. changed refl o (cc)) (λ c e. none_is new e)
leaf_by s p n k (Changed item) new h same changed =
    chosen (is_open_at s.layers n k p) (Some (stored (put_at s.layers p n (Changed item)) s.told)) None new h (λ o e. changed refl o (cc)) (λ c e. none_is new e)

pub tried_by : (Q : StoreState → Type 0) (t : StoreState) (f : Op → Option StoreState) (o : Option Op) → Q t → ((op : Op) (u : StoreState) → f op ≡ Some u → Q u) → Q (unwrap_or (option_and_then f o) t)
tried_by Q t f None here go = here
tried_by Q t f (Some op) here go = by_write (f op) refl where
  by_write : (o : Option StoreState) → f op ≡ o → Q (unwrap_or o t)
  by_write None e = here
  by_write (Some u) e = go op u e

-- ---- what each change of one layer keeps

module _ (R : List LayerState → List LayerState → Type 0) (n : List ℕ) (k : Option Kind) (P : ℕ → Type 0)
    (stay : (ls : List LayerState) → R ls ls) (along : (a b c : List LayerState) → R a b → R b c → R a c)
    (step : (ls : List LayerState) (p : ℕ) (made : After) → P p → is_open_at ls n k p ≡ true → R ls (put_at ls p n made)) where
  stays : (s new : StoreState) → s ≡ new → R s.layers new.layers
  stays s new e = subst (λ (u : StoreState). R s.layers u.layers) e (stay s.layers)

  mutual
    pub walked : (plan : Tree) → Everywhere P plan → (s new : StoreState) (op : Op) → write s plan n k op ≡ Some new → R s.layers new.layers
    walked (Leaf place) e s new op h =
        leaf_by s place n k (after_at op (item_at s.layers place n)) new h (λ same is. stays s new is)
        (λ c o is. subst (λ (u : StoreState). R s.layers u.layers) is (step s.layers place (after_at op (item_at s.layers place n)) e o))
    walked (Stack plans) e s new op h =
        either (write_held s plans n k op) (put_above s (after_at op (look_of s.layers (leaves_of plans) n)) (λ put. write_first s plans n k put)) new h
        (λ one. walked_held plans e s new op one)
        (λ none two. above_by s (after_at op (look_of s.layers (leaves_of plans) n)) (λ put. write_first s plans n k put) new two (λ same is. stays s new is) (λ item made is. walked_first plans e s new (Put item) is))
    walked (Backup first second) e s new op h =
        mapped (λ t. unwrap_or (option_and_then (λ o. write t second n k o) (backup_op (look t.layers first n) (look t.layers second n))) t) (write s first n k op) new h
        (λ t one is. subst (λ (u : StoreState). R s.layers u.layers) is
        (along s.layers t.layers _ (walked first e.0 s t op one)
        (tried_by (λ u. R t.layers u.layers) t (λ o. write t second n k o) (backup_op (look t.layers first n) (look t.layers second n)) (stay t.layers) (λ o u two. walked second e.1 t u o two))))
    walked (Debug plan) e s new op h =
        mapped (then_told (told_line op n)) (write s plan n k op) new h (λ t one is. subst (λ (u : StoreState). R s.layers u.layers) is (walked plan e s t op one))

    pub walked_held : (plans : Trees) → AllEverywhere P plans → (s new : StoreState) (op : Op) → write_held s plans n k op ≡ Some new → R s.layers new.layers
    walked_held End e s new op h = none_is new h
    walked_held (More plan plans) e s new op h =
        chosen (holds s.layers plan n) (write s plan n k op) (write_held s plans n k op) new h (λ b one. walked plan e.0 s new op one) (λ b two. walked_held plans e.1 s new op two)

    pub walked_first : (plans : Trees) → AllEverywhere P plans → (s new : StoreState) (op : Op) → write_first s plans n k op ≡ Some new → R s.layers new.layers
    walked_first End e s new op h = none_is new h
    walked_first (More plan plans) e s new op h =
        chosen (holds s.layers plan n) None (or_else (write s plan n k op) (write_first s plans n k op)) new h (λ b one. none_is new one)
        (λ b two. either (write s plan n k op) (write_first s plans n k op) new two (λ one. walked plan e.0 s new op one) (λ none rest. walked_first plans e.1 s new op rest))

-- ---- every other name keeps its item in every layer

mutual
  pub everywhere : (plan : Tree) → Everywhere (λ p. Unit {0}) plan
  everywhere (Leaf place) = tt
  everywhere (Stack plans) = all_everywhere plans
  everywhere (Backup first second) = (everywhere first, everywhere second)
  everywhere (Debug plan) = everywhere plan

  pub all_everywhere : (plans : Trees) → AllEverywhere (λ p. Unit {0}) plans
  all_everywhere End = tt
  all_everywhere (More plan plans) = (everywhere plan, all_everywhere plans)

pub plan_keeps : (s new : StoreState) (plan : Tree) (n : List ℕ) (k : Option Kind) (op : Op) → write s plan n k op ≡ Some new → AreSameBut n s.layers new.layers
plan_keeps s new plan n k op h = walked (AreSameBut n) n k (λ p. Unit {0}) (same_layers n) (same_layers_then n) (λ ls p made u o. put_same n ls p made) plan (everywhere plan) s new op h

-- ---- a layer of which the plan doesn't speak stays as it is

pub put_elsewhere : (n : List ℕ) (ls : List LayerState) (p q : ℕ) (made : After) → (p ≡ q → ⊥) → slice_get (put_at ls p n made) q ≡ slice_get ls q
put_elsewhere n [] p q made d = refl
put_elsewhere n (l ∷ ls) zero zero made d = absurd (d refl)
put_elsewhere n (l ∷ ls) zero (suc q) made d = refl
put_elsewhere n (l ∷ ls) (suc p) zero made d = refl
put_elsewhere n (l ∷ ls) (suc p) (suc q) made d = put_elsewhere n ls p q made (λ e. d (ap suc e))

pub has_one : (p : ℕ) → Contains (p ∷ []) p
has_one p = (0, omega arith, refl)

mutual
  pub elsewhere : (plan : Tree) (q : ℕ) → (Contains (all_places plan) q → ⊥) → Everywhere (λ p. p ≡ q → ⊥) plan
  elsewhere (Leaf place) q d = λ e. d (subst (λ x. Contains (place ∷ []) x) e (has_one place))
  elsewhere (Stack plans) q d = all_elsewhere plans q d
  elsewhere (Backup first second) q d =
      (elsewhere first q (λ c. d (Contains-append_left (all_places first) (all_places second) q c)), elsewhere second q (λ c. d (Contains-append_right (all_places first) (all_places second) q c)))
  elsewhere (Debug plan) q d = elsewhere plan q d

  pub all_elsewhere : (plans : Trees) (q : ℕ) → (Contains (all_places_of plans) q → ⊥) → AllEverywhere (λ p. p ≡ q → ⊥) plans
  all_elsewhere End q d = tt
  all_elsewhere (More plan plans) q d =
      (elsewhere plan q (λ c. d (Contains-append_left (all_places plan) (all_places_of plans) q c)), all_elsewhere plans q (λ c. d (Contains-append_right (all_places plan) (all_places_of plans) q c)))

pub write_elsewhere : (s new : StoreState) (plan : Tree) (n : List ℕ) (k : Option Kind) (op : Op) → write s plan n k op ≡ Some new → AreAlikeBut (all_places plan) s.layers new.layers
write_elsewhere s new plan n k op h q d =
    walked (λ old now. slice_get now q ≡ slice_get old q) n k (λ p. p ≡ q → ⊥) (λ ls. refl) (λ a b c x y. y ∙ x) (λ ls p made e o. put_elsewhere n ls p q made e) plan (elsewhere plan q d) s new op h
