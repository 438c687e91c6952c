-- What a write leaves as it was, and where it changes something.
use Rattle.std.specs.Prelude.{◌≡◌, ℕ, true, false, List, [], ◌∷◌, ◌++◌, ◌⊎◌, Option, None, length, slice_get}
use Rattle.std.specs.List.{All, AllByRecursion, Contains}
use Rattle.std.specs.FinMap as map
use Rattle.dc_conf.specs.Trees.{Tree, Trees, Leaf, End, More}
use Rattle.dc_conf.specs.Plans.{leaves, seconds}
use Rattle.dc_item.specs.After.{after_at}
use Rattle.dc_item.specs.declared.op.Op.{Op}
use Rattle.dc_item.specs.declared.op.After.{After}
use Rattle.dc_item.specs.declared.op.After.TheVariants.{Same, Gone}
use Rattle.dc_template.specs.declared.kinds.Kind.{Kind}
use Rattle.dc_layer.specs.State.{LayerState}
use Rattle.dc_store.specs.Holders.{has_at, look_of}
use Rattle.dc_store.specs.Plans.{StoreState}
use Rattle.dc_store.specs.Writes.{is_open_at, put_at, writable_holder, copy_target}

-- two states of a layer differ in the item of one name, and in which names were touched, alone
pub record IsSameBut (name : List ℕ) (old new : LayerState) : Type 0 where
  pub sort : new.sort ≡ old.sort
  pub spec : new.spec ≡ old.spec
  pub left_out : new.left_out ≡ old.left_out
  pub text : new.old ≡ old.old
  pub items : (other : List ℕ) → (other ≡ name → ⊥) → map.get new.table other ≡ map.get old.table other

-- the same of each layer of two lists, which are as long
abbrev pub AreSameBut : List ℕ → List LayerState → List LayerState → Type 0
AreSameBut name [] [] = Unit {0}
AreSameBut name [] (new ∷ news) = ⊥
AreSameBut name (old ∷ olds) [] = ⊥
AreSameBut name (old ∷ olds) (new ∷ news) = IsSameBut name old new × AreSameBut name olds news

-- two states of a layer differ in the items of some names, and in which names were touched, alone
pub record IsSameButAll (names : List (List ℕ)) (old new : LayerState) : Type 0 where
  pub sort : new.sort ≡ old.sort
  pub spec : new.spec ≡ old.spec
  pub left_out : new.left_out ≡ old.left_out
  pub text : new.old ≡ old.old
  pub items : (other : List ℕ) → (Contains names other → ⊥) → map.get new.table other ≡ map.get old.table other

-- the same of each layer of two lists, which are as long
abbrev pub AreSameButAll : List (List ℕ) → List LayerState → List LayerState → Type 0
AreSameButAll names [] [] = Unit {0}
AreSameButAll names [] (new ∷ news) = ⊥
AreSameButAll names (old ∷ olds) [] = ⊥
AreSameButAll names (old ∷ olds) (new ∷ news) = IsSameButAll names old new × AreSameButAll names olds news

-- two states of a store, which has as many layers, differ in the item of one name, in which names were touched, and in what was told, alone
pub record IsSameStoreBut (name : List ℕ) (old new : StoreState) : Type 0 where
  pub others : AreSameBut name old.layers new.layers
  pub count : length new.layers ≡ length old.layers

-- the same of the items of some names
pub record IsSameStoreButAll (names : List (List ℕ)) (old new : StoreState) : Type 0 where
  pub others : AreSameButAll names old.layers new.layers
  pub count : length new.layers ≡ length old.layers

-- the place is the topmost whose layer has the item
pub record IsTopmost (layers : List LayerState) (places : List ℕ) (name : List ℕ) (place : ℕ) : Type 0 where
  pub higher : List ℕ
  pub lower : List ℕ
  pub stands : places ≡ higher ++ place ∷ lower
  pub has : has_at layers name place ≡ true
  pub others : All (λ p. has_at layers name p ≡ false) higher

-- the layers at all other places are the same
abbrev pub AreAlikeBut : List ℕ → List LayerState → List LayerState → Type 0
AreAlikeBut places old new = (place : ℕ) → (Contains places place → ⊥) → slice_get new place ≡ slice_get old place

-- no place above this one has the item
pub record IsHigh (layers : List LayerState) (places : List ℕ) (name : List ℕ) (place : ℕ) : Type 0 where
  pub higher : List ℕ
  pub lower : List ℕ
  pub stands : places ≡ higher ++ place ∷ lower
  pub others : AllByRecursion (λ p. has_at layers name p ≡ false) higher

-- Apart from the second plans of backups one layer changed: no layer above it has the item, and it is writable, and had the item or admits
-- it. It got what became of the item.
pub record ChangesOne (layers : List LayerState) (plan : Tree) (name : List ℕ) (kind : Option Kind) (made : After) (new : List LayerState) : Type 0 where
  pub place : ℕ
  pub high : IsHigh layers (leaves plan) name place
  pub takes : is_open_at layers name kind place ≡ true
  pub had : made ≡ Gone → has_at layers name place ≡ true
  pub leaves : AreAlikeBut (seconds plan) (put_at layers place name made) new

-- what a write leaves that is taken: nothing changed apart from backups, or one layer did
abbrev pub IsTaken : List LayerState → Tree → List ℕ → Option Kind → After → List LayerState → Type 0
IsTaken layers plan name kind made new = ((made ≡ Same) × AreAlikeBut (seconds plan) layers new) ⊎ ChangesOne layers plan name kind made new

-- no place that is asked stands under a backup's second plan
abbrev pub KeepsApart : Tree → Type 0
KeepsApart plan = (place : ℕ) → Contains (leaves plan) place → Contains (seconds plan) place → ⊥

-- no place is asked twice
abbrev pub IsOnce : List ℕ → Type 0
IsOnce places = (higher lower : List ℕ) (place : ℕ) → places ≡ higher ++ place ∷ lower → Contains lower place → ⊥

-- each of the plans is one database
abbrev pub IsFlat : Trees → Type 0
IsFlat End = Unit {0}
IsFlat (More (Leaf place) plans) = IsFlat plans
IsFlat (More _ plans) = ⊥

-- Of a stack of databases alone: the item would change, no writable layer holds it, and it would go or no layer takes it.
pub record IsRefusal (layers : List LayerState) (places : List ℕ) (name : List ℕ) (kind : Option Kind) (op : Op) : Type 0 where
  pub changes : after_at op (look_of layers places name) ≡ Same → ⊥
  pub held : writable_holder layers places name ≡ None
  pub homeless : (after_at op (look_of layers places name) ≡ Gone) ⊎ (copy_target layers places name kind ≡ None)
