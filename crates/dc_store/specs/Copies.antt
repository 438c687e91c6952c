-- Where the copy of an item goes whose holder isn't writable.
use Rattle.std.specs.Prelude.{ℕ, List, [], ◌++◌, Option, None, if◌then◌else◌}
use Rattle.std.specs.Option.{option_or}
use Rattle.std.specs.List.{find}
use Rattle.dc_conf.specs.Trees.{Tree, Trees, Leaf, Stack, Backup, Debug, End, More}
use Rattle.dc_conf.specs.Plans.{leaves}
use Rattle.dc_template.specs.declared.kinds.Kind.{Kind}
use Rattle.dc_layer.specs.State.{LayerState}
use Rattle.dc_store.specs.Plans.{holds}
use Rattle.dc_store.specs.Writes.{takes_at}

-- the places of the children above the first that holds the item, which are all of them where none does
abbrev pub leaves_above : List LayerState → Trees → List ℕ → List ℕ
leaves_above layers End name = []
leaves_above layers (More plan plans) name = if holds layers plan name then [] else leaves plan ++ leaves_above layers plans name

-- The innermost stack that has a taking place above the holder, and there the topmost such place.
abbrev mutual
  pub copy_place : List LayerState → Tree → List ℕ → Option Kind → Option ℕ
  copy_place layers (Leaf place) name kind = None
  copy_place layers (Stack plans) name kind =
      option_or (copy_place_held layers plans name kind) (find (takes_at layers name kind) (leaves_above layers plans name))
  copy_place layers (Backup first second) name kind = copy_place layers first name kind
  copy_place layers (Debug plan) name kind = copy_place layers plan name kind

  pub copy_place_held : List LayerState → Trees → List ℕ → Option Kind → Option ℕ
  copy_place_held layers End name kind = None
  copy_place_held layers (More plan plans) name kind =
      if holds layers plan name then copy_place layers plan name kind else copy_place_held layers plans name kind
