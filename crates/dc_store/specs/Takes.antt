-- Which writes a plan takes, by what stands in the layers alone.
use Rattle.std.specs.Prelude.{ℕ, Bool, true, false, not, ◌||◌, List, Option, if◌then◌else◌}
use Rattle.dc_conf.specs.Trees.{Tree, Trees, Leaf, Stack, Backup, Debug, End, More}
use Rattle.dc_conf.specs.Plans.{leaves_of}
use Rattle.dc_item.specs.After.{after_at}
use Rattle.dc_item.specs.declared.op.Op.{Op}
use Rattle.dc_item.specs.declared.op.Op.TheVariants.{Put}
use Rattle.dc_item.specs.declared.op.After.{After}
use Rattle.dc_item.specs.declared.op.After.TheVariants.{Same, Changed, Gone}
use Rattle.dc_template.specs.declared.kinds.Kind.{Kind}
use Rattle.dc_layer.specs.State.{LayerState}
use Rattle.dc_store.specs.Holders.{item_at, look_of}
use Rattle.dc_store.specs.Plans.{holds}
use Rattle.dc_store.specs.Writes.{is_change, is_open_at}

-- what is taken of an item, by what the operation makes of it
abbrev pub made_takes : After → (Op → Bool) → Bool
made_takes Same takes = true
made_takes Gone takes = false
made_takes (Changed item) takes = takes (Put item)

-- The same as `would_take`, and no layers are made.
abbrev mutual
  pub takes : List LayerState → Tree → List ℕ → Option Kind → Op → Bool
  takes layers (Leaf place) name kind op = not (is_change (after_at op (item_at layers place name))) || is_open_at layers name kind place
  takes layers (Stack plans) name kind op =
      takes_held layers plans name kind op
      || made_takes (after_at op (look_of layers (leaves_of plans) name)) (λ put. takes_first layers plans name kind put)
  takes layers (Backup first second) name kind op = takes layers first name kind op
  takes layers (Debug plan) name kind op = takes layers plan name kind op

  pub takes_held : List LayerState → Trees → List ℕ → Option Kind → Op → Bool
  takes_held layers End name kind op = false
  takes_held layers (More plan plans) name kind op =
      if holds layers plan name then takes layers plan name kind op else takes_held layers plans name kind op

  pub takes_first : List LayerState → Trees → List ℕ → Option Kind → Op → Bool
  takes_first layers End name kind op = false
  takes_first layers (More plan plans) name kind op =
      if holds layers plan name then false else takes layers plan name kind op || takes_first layers plans name kind op
