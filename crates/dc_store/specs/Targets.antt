-- Where the writes of a row land, as their tests tell.
use Rattle.std.specs.Prelude.{◌≡◌, ℕ, Bool, true, false, ◌&&◌, List, [], ◌∷◌, Some}
use Rattle.dc_conf.specs.Trees.{Tree, Trees, Leaf, Stack, Backup, Debug, End, More}
use Rattle.dc_conf.specs.Plans.{leaves}
use Rattle.dc_layer.specs.State.{LayerState, is_put}
use Rattle.dc_store.specs.Batches.{Write, is_refused}
use Rattle.dc_store.specs.Writes.{put_target}
use Rattle.dc_store.specs.declared.batch.Target.{Target}
use Rattle.dc_store.specs.declared.batch.Target.TheVariants.{Nowhere, Anywhere, At}

-- the plan keeps no backup and tells nothing: it is made of databases and stacks alone
abbrev mutual
  pub is_plain : Tree → Bool
  is_plain (Leaf place) = true
  is_plain (Stack plans) = are_plain plans
  is_plain (Backup first second) = false
  is_plain (Debug plan) = false

  pub are_plain : Trees → Bool
  are_plain End = true
  are_plain (More plan plans) = is_plain plan && are_plain plans

-- the write puts an item on a plan that keeps no backup and tells nothing, and the item goes to the layer at this place as it is
pub record LandsAt (layers : List LayerState) (w : Write) (place : ℕ) : Type 0 where
  pub puts : is_put w.op ≡ true
  pub plain : is_plain w.plan ≡ true
  pub stands : put_target layers (leaves w.plan) w.name w.kind ≡ Some place

-- what a test of a write tells is so
abbrev pub IsTarget : List LayerState → Write → Target → Type 0
IsTarget layers w Nowhere = is_refused layers w ≡ true
IsTarget layers w Anywhere = is_refused layers w ≡ false
IsTarget layers w (At place) = LandsAt layers w place

-- the same of the writes for which it is told
abbrev pub AreTargets : List LayerState → List Write → List Target → Type 0
AreTargets layers [] targets = Unit {0}
AreTargets layers (w ∷ batch) [] = Unit {0}
AreTargets layers (w ∷ batch) (l ∷ targets) = IsTarget layers w l × AreTargets layers batch targets
