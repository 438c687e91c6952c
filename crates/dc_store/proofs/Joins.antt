-- What is found in lists of places that are joined.
use Rattle.std.proofs.Common.{◌≡◌, ◌<◌, ℕ, Bool, true, List, [], ◌++◌, Option, Some, None, is_some, refl, sym, ap, ◌∙◌}
use Rattle.std.specs.Prelude.{option_and_then}
use Rattle.std.specs.Option.{option_or}
use Rattle.std.specs.List.{find}
use Rattle.std.proofs.lemmas.List.Elements.{All-nil, All-cons, All-append}
use Rattle.std.proofs.lemmas.List.Folds.{find-append}
use Rattle.dc_conf.specs.Plans.{leaves, leaves_of, IsOver, AreOver}
use Rattle.dc_store.specs.Holders.{AreWithin}
use Rattle.dc_conf.specs.Trees.{Tree, Trees, Leaf, Stack, Backup, Debug, End, More}
use Rattle.dc_layer.specs.State.{LayerState}
use Rattle.dc_store.specs.Holders.{item_at, has_at, holder_of, look_of}
use Rattle.dc_store.specs.Plans.{holds}

module _ (ls : List LayerState) (n : List ℕ) where
  pub holder_append : (xs ys : List ℕ) → holder_of ls (xs ++ ys) n ≡ option_or (holder_of ls xs n) (holder_of ls ys n)
  holder_append xs ys = find-append (has_at ls n) xs ys

  -- the holder is of the first list where there is one
  pub holder_first : (xs ys : List ℕ) (p : ℕ) → holder_of ls xs n ≡ Some p → holder_of ls (xs ++ ys) n ≡ Some p
  holder_first xs ys p h = holder_append xs ys ∙ ap (λ o. option_or o (holder_of ls ys n)) h

  pub holder_second : (xs ys : List ℕ) → holder_of ls xs n ≡ None → holder_of ls (xs ++ ys) n ≡ holder_of ls ys n
  holder_second xs ys h = holder_append xs ys ∙ ap (λ o. option_or o (holder_of ls ys n)) h

  pub look_first : (xs ys : List ℕ) (p : ℕ) → holder_of ls xs n ≡ Some p → look_of ls (xs ++ ys) n ≡ look_of ls xs n
  look_first xs ys p h = ap (option_and_then (λ q. item_at ls q n)) (holder_first xs ys p h ∙ sym h)

  pub look_second : (xs ys : List ℕ) → holder_of ls xs n ≡ None → look_of ls (xs ++ ys) n ≡ look_of ls ys n
  look_second xs ys h = ap (option_and_then (λ q. item_at ls q n)) (holder_second xs ys h)

-- the first of a list of plans, as a body meets it
module _ (ls : List LayerState) (n : List ℕ) (plans rest tail : Trees) (plan head : Tree) (is : plans ≡ More plan rest) (first : head ≡ plan) where
  as_parts : leaves_of plans ≡ leaves head ++ leaves_of rest
  as_parts = ap leaves_of is ∙ ap (λ x. leaves x ++ leaves_of rest) (sym first)

  pub more_first : (place : ℕ) → holder_of ls (leaves head) n ≡ Some place → holder_of ls (leaves_of plans) n ≡ Some place
  more_first place h = ap (λ xs. holder_of ls xs n) as_parts ∙ holder_first ls n (leaves head) (leaves_of rest) place h

  pub more_second : tail ≡ rest → holder_of ls (leaves head) n ≡ None → holder_of ls (leaves_of plans) n ≡ holder_of ls (leaves_of tail) n
  more_second behind h = ap (λ xs. holder_of ls xs n) as_parts ∙ (holder_second ls n (leaves head) (leaves_of rest) h ∙ ap (λ x. holder_of ls (leaves_of x) n) (sym behind))

  pub seen_first : (place : ℕ) → holder_of ls (leaves head) n ≡ Some place → look_of ls (leaves_of plans) n ≡ look_of ls (leaves head) n
  seen_first place h = ap (λ xs. look_of ls xs n) as_parts ∙ look_first ls n (leaves head) (leaves_of rest) place h

  pub seen_second : tail ≡ rest → holder_of ls (leaves head) n ≡ None → look_of ls (leaves_of plans) n ≡ look_of ls (leaves_of tail) n
  seen_second behind h = ap (λ xs. look_of ls xs n) as_parts ∙ (look_second ls n (leaves head) (leaves_of rest) h ∙ ap (λ x. look_of ls (leaves_of x) n) (sym behind))

-- a stack holds what its first child holds
pub first_holds : (ls : List LayerState) (n : List ℕ) (stack : Tree) (plans rest : Trees) (plan head : Tree) → stack ≡ Stack plans → plans ≡ More plan rest → head ≡ plan
    → holds ls head n ≡ true → holds ls stack n ≡ true
first_holds ls n stack plans rest plan head is more first h =
    ap (λ t. holds ls t n) (is ∙ ap Stack more) ∙ by_holder (holder_of ls (leaves plan) n) refl (sym (ap (λ t. holds ls t n) first) ∙ h)
  where
    by_holder : (o : Option ℕ) → holder_of ls (leaves plan) n ≡ o → is_some o ≡ true → holds ls (Stack (More plan rest)) n ≡ true
    by_holder None e h = cc
    by_holder (Some p) e h = ap is_some (holder_first ls n (leaves plan) (leaves_of rest) p e)

-- the first place of a list of plans that passes a test, as a body meets it
module _ (p : ℕ → Bool) (plans rest tail : Trees) (plan head : Tree) (is : plans ≡ More plan rest) (first : head ≡ plan) where
  places_parts : leaves_of plans ≡ leaves head ++ leaves_of rest
  places_parts = ap leaves_of is ∙ ap (λ x. leaves x ++ leaves_of rest) (sym first)

  pub found_first : (place : ℕ) → find p (leaves head) ≡ Some place → find p (leaves_of plans) ≡ Some place
  found_first place h = ap (find p) places_parts ∙ (find-append p (leaves head) (leaves_of rest) ∙ ap (λ o. option_or o (find p (leaves_of rest))) h)

  pub found_second : tail ≡ rest → find p (leaves head) ≡ None → find p (leaves_of plans) ≡ find p (leaves_of tail)
  found_second behind h =
      ap (find p) places_parts
      ∙ (find-append p (leaves head) (leaves_of rest) ∙ (ap (λ o. option_or o (find p (leaves_of rest))) h ∙ ap (λ x. find p (leaves_of x)) (sym behind)))

-- the places that are asked are of those that a plan speaks of
mutual
  pub leaves_within : (plan : Tree) (count : ℕ) → IsOver plan count → AreWithin (leaves plan) count
  leaves_within (Leaf place) count over = All-cons (λ place. place < count) place [] over (All-nil (λ place. place < count))
  leaves_within (Stack plans) count over = all_within plans count over
  leaves_within (Backup first second) count over = leaves_within first count over.0
  leaves_within (Debug plan) count over = leaves_within plan count over

  all_within : (plans : Trees) (count : ℕ) → AreOver plans count → AreWithin (leaves_of plans) count
  all_within End count over = All-nil (λ place. place < count)
  all_within (More plan plans) count over = All-append (λ place. place < count) (leaves plan) (leaves_of plans) (leaves_within plan count over.0) (all_within plans count over.1)
