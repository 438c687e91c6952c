-- What is seen below the holder, in lists of places that are joined.
use Rattle.std.proofs.Common.{◌≡◌, ℕ, Bool, true, false, cond, ◌||◌, List, [], ◌∷◌, ◌++◌, Option, Some, None, is_some, refl, sym, ap, ◌∙◌}
use Rattle.std.specs.Prelude.{if◌then◌else◌}
use Rattle.std.specs.Option.{option_or}
use Rattle.std.specs.List.{after_first, list_any}
use Rattle.dc_conf.specs.Plans.{leaves, leaves_of}
use Rattle.dc_conf.specs.Trees.{Tree, Trees, More}
use Rattle.dc_item.specs.Item.{ItemParts}
use Rattle.dc_layer.specs.State.{LayerState}
use Rattle.dc_store.specs.Holders.{item_at, has_at, holder_of, holds_of, look_of, below, look_below_of, has_below_of}
use Rattle.dc_store.proofs.Searches.{look_step, after_first_step, any_find}

module _ (ls : List LayerState) (n : List ℕ) where
  -- what is seen, or below the holder where none was met yet
  abbrev pub past : Bool → List ℕ → Option ItemParts
  past b xs = if b then look_of ls xs n else look_below_of ls xs n

  or_assoc : (a b c : Option ItemParts) → option_or a (option_or b c) ≡ option_or (option_or a b) c
  or_assoc None b c = refl
  or_assoc (Some x) b c = refl

  look_join : (xs ys : List ℕ) → look_of ls (xs ++ ys) n ≡ option_or (look_of ls xs n) (look_of ls ys n)
  look_join [] ys = refl
  look_join (x ∷ xs) ys =
      look_step ls x (xs ++ ys) n
      ∙ (ap (option_or (item_at ls x n)) (look_join xs ys)
      ∙ (or_assoc (item_at ls x n) (look_of ls xs n) (look_of ls ys n) ∙ ap (λ o. option_or o (look_of ls ys n)) (sym (look_step ls x xs n))))

  step_below : (x : ℕ) (xs : List ℕ) → look_below_of ls (x ∷ xs) n ≡ (if has_at ls n x then look_of ls xs n else look_below_of ls xs n)
  step_below x xs =
      ap (λ ps. look_of ls ps n) (after_first_step (has_at ls n) x xs)
      ∙ elim (has_at ls n x) as (λ b. look_of ls (cond b xs (after_first (has_at ls n) xs)) n ≡ (if b then look_of ls xs n else look_below_of ls xs n)) [ true ↦ refl | false ↦ refl ]

  below_join : (xs ys : List ℕ) → look_below_of ls (xs ++ ys) n ≡ option_or (look_below_of ls xs n) (past (holds_of ls xs n) ys)
  below_join [] ys = refl
  below_join (x ∷ xs) ys =
      step_below x (xs ++ ys)
      ∙ (elim (has_at ls n x) as (λ b. (if b then look_of ls (xs ++ ys) n else look_below_of ls (xs ++ ys) n)
      ≡ option_or (if b then look_of ls xs n else look_below_of ls xs n) (past (is_some (if b then Some x else holder_of ls xs n)) ys)) [ true ↦ look_join xs ys | false ↦ below_join xs ys ]
      ∙ ap (λ o. option_or o (past (holds_of ls (x ∷ xs) n) ys)) (sym (step_below x xs)))

  holds_join : (xs ys : List ℕ) → holds_of ls (xs ++ ys) n ≡ (holds_of ls xs n || holds_of ls ys n)
  holds_join [] ys = refl
  holds_join (x ∷ xs) ys =
      elim (has_at ls n x) as (λ b. is_some (if b then Some x else holder_of ls (xs ++ ys) n) ≡ (is_some (if b then Some x else holder_of ls xs n) || holds_of ls ys n)) [ true ↦ refl | false ↦ holds_join xs ys ]

  or_joined : (a b c : Bool) → ((a || b) || c) ≡ (a || (b || c))
  or_joined true b c = refl
  or_joined false b c = refl

  past_join : (b : Bool) (xs ys : List ℕ) → past b (xs ++ ys) ≡ option_or (past b xs) (past (b || holds_of ls xs n) ys)
  past_join true xs ys = look_join xs ys
  past_join false xs ys = below_join xs ys

  -- as a body meets them: the first of a list of plans, and the rest
  module _ (plans rest tail : Trees) (plan head : Tree) (is : plans ≡ More plan rest) (first : head ≡ plan) (b : Bool) where
    as_parts : leaves_of plans ≡ leaves head ++ leaves_of rest
    as_parts = ap leaves_of is ∙ ap (λ x. leaves x ++ leaves_of rest) (sym first)

    pub past_first : (item : ItemParts) → past b (leaves head) ≡ Some item → past b (leaves_of plans) ≡ Some item
    past_first item e = ap (past b) as_parts ∙ (past_join b (leaves head) (leaves_of rest) ∙ ap (λ o. option_or o (past (b || holds_of ls (leaves head) n) (leaves_of rest))) e)

    pub past_second : (flag : Bool) → tail ≡ rest → past b (leaves head) ≡ None → flag ≡ (b || holds_of ls (leaves head) n) → past b (leaves_of plans) ≡ past flag (leaves_of tail)
    past_second flag behind e f =
        ap (past b) as_parts
        ∙ (past_join b (leaves head) (leaves_of rest)
        ∙ (ap (λ o. option_or o (past (b || holds_of ls (leaves head) n) (leaves_of rest))) e ∙ (λ i. past (sym f i) (leaves_of (sym behind i)))))

    pub flag_second : (flag last : Bool) → tail ≡ rest → flag ≡ (b || holds_of ls (leaves head) n) → last ≡ (flag || holds_of ls (leaves_of tail) n) → last ≡ (b || holds_of ls (leaves_of plans) n)
    flag_second flag last behind f l =
        l
        ∙ ((λ i. f i || holds_of ls (leaves_of (behind i)) n)
        ∙ (or_joined b (holds_of ls (leaves head) n) (holds_of ls (leaves_of rest) n)
        ∙ ap (λ o. b || o) (sym (ap (λ xs. holds_of ls xs n) as_parts ∙ holds_join (leaves head) (leaves_of rest)))))

  -- a place below the holder has the item where one is seen there
  seen_any : (ps : List ℕ) → is_some (look_of ls ps n) ≡ list_any (has_at ls n) ps
  seen_any [] = refl
  seen_any (p ∷ ps) =
      ap is_some (look_step ls p ps n)
      ∙ by_item (item_at ls p n) (seen_any ps)
    where
      by_item : (o : Option ItemParts) → is_some (look_of ls ps n) ≡ list_any (has_at ls n) ps → is_some (option_or o (look_of ls ps n)) ≡ (is_some o || list_any (has_at ls n) ps)
      by_item None rest = rest
      by_item (Some item) rest = refl

  pub below_any : (ps : List ℕ) → is_some (look_below_of ls ps n) ≡ has_below_of ls ps n
  below_any ps = seen_any (below ls ps n)

  -- an item is seen where there is a holder
  pub seen_held : (ps : List ℕ) → is_some (look_of ls ps n) ≡ holds_of ls ps n
  seen_held ps = seen_any ps ∙ sym (any_find (has_at ls n) ps)
