-- What a plan sees and writes (debconf.conf(5), Stack, Backup, Debug). Plans are trees, and so each of these is a recursion. All that stands
-- above speaks of plans, by these words alone.
use Rattle.std.specs.Prelude.{ℕ, Bool, false, ◌&&◌, ◌||◌, List, [], ◌∷◌, ◌++◌, Option, Some, None, is_some, option_map, option_and_then, unwrap_or, slice_get, codes, if◌then◌else◌}
use Rattle.std.specs.Option.{option_map_or}
use Rattle.std.specs.List.{filter, flat_map}
use Rattle.std.specs.FinMap as map
use Rattle.dc_text.specs.Maps.{set_of}
use Rattle.dc_conf.specs.Trees.{Tree, Trees, Leaf, Stack, Backup, Debug, End, More}
use Rattle.dc_conf.specs.Plans.{leaves, leaves_of}
use Rattle.dc_item.specs.Item.{ItemParts}
use Rattle.dc_item.specs.After.{after_at}
use Rattle.dc_item.specs.declared.op.After.{After}
use Rattle.dc_item.specs.declared.op.After.TheVariants.{Same, Changed, Gone}
use Rattle.dc_item.specs.declared.op.Op.{Op}
use Rattle.dc_item.specs.declared.op.Op.TheVariants.{Put, SetField, DropField, SetFlag, SetVar, AddOwner, DropOwners}
use Rattle.dc_template.specs.declared.kinds.Kind.{Kind}
use Rattle.dc_layer.specs.State.{LayerState}
use Rattle.dc_store.specs.Holders.{item_at, has_at, holder_of, holds_of, look_of, look_below_of, has_below_of}
use Rattle.dc_store.specs.Writes.{is_writable_at, is_open_at, put_at}

-- ---- what is seen: by the places that are asked alone

abbrev pub holder : List LayerState → Tree → List ℕ → Option ℕ
holder layers plan name = holder_of layers (leaves plan) name

abbrev pub look : List LayerState → Tree → List ℕ → Option ItemParts
look layers plan name = look_of layers (leaves plan) name

-- some place that is asked has the item
abbrev pub holds : List LayerState → Tree → List ℕ → Bool
holds layers plan name = holds_of layers (leaves plan) name

abbrev pub look_below : List LayerState → Tree → List ℕ → Option ItemParts
look_below layers plan name = look_below_of layers (leaves plan) name

abbrev pub has_below : List LayerState → Tree → List ℕ → Bool
has_below layers plan name = has_below_of layers (leaves plan) name

-- what is seen where an operation made this of an item: the changed item, and where the item went the one below it
abbrev pub seen_after : Option ItemParts → Option ItemParts → After → Option ItemParts
seen_after item below Same = item
seen_after item below (Changed made) = Some made
seen_after item below Gone = below

-- what is seen under the name once the operation is done
abbrev pub look_after : List LayerState → Tree → List ℕ → Op → Option ItemParts
look_after layers plan name op = seen_after (look layers plan name) (look_below layers plan name) (after_at op (look layers plan name))

-- the names in the table of the layer at a place
abbrev pub names_at : List LayerState → ℕ → List (List ℕ)
names_at layers place = option_map_or (λ layer. map.keys layer.table) (slice_get layers place) []

-- each name that a place of the plan has that is asked, once, in byte order
abbrev pub names : List LayerState → Tree → List (List ℕ)
names layers plan = map.keys (set_of (flat_map (names_at layers) (leaves plan)))

-- there is an item, and it has the owner
abbrev pub is_owned : List ℕ → Option ItemParts → Bool
is_owned owner item = option_map_or (λ parts. map.contains_key parts.owners owner) item false

-- those of which the item that is seen has the owner
abbrev pub owned : List LayerState → Tree → List ℕ → List (List ℕ)
owned layers plan owner = filter (λ name. is_owned owner (look layers plan name)) (names layers plan)

-- ---- what is written

-- a store: its layers, and the lines that it told
pub record StoreState : Type 0 where
  pub layers : List LayerState
  pub told : List ℕ

-- the store of these layers, which told these lines
abbrev pub stored : List LayerState → List ℕ → StoreState
stored layers told = record { layers = layers; told = told }

-- A write to the one layer at a place, by what the operation makes of the item there: it is refused where the item would change and
-- the layer isn't open to it.
abbrev pub leaf_written : StoreState → ℕ → List ℕ → Option Kind → After → Option StoreState
leaf_written store place name kind Same = Some store
leaf_written store place name kind made =
    if is_open_at store.layers name kind place then Some (stored (put_at store.layers place name made) store.told) else None

-- the first, and where it is refused the second
abbrev pub or_else : Option StoreState → Option StoreState → Option StoreState
or_else (Some store) other = Some store
or_else None other = other

-- where no child took the operation: what it makes of the item that is seen is put to one that takes it
abbrev pub put_above : StoreState → After → (Op → Option StoreState) → Option StoreState
put_above store Same write = Some store
put_above store Gone write = None
put_above store (Changed item) write = write (Put item)

-- what is written to the second plan of a backup, by what the first has then and what the second has: the item of the first, or that
-- all owners of the second's go, where the first has no item any more
abbrev pub backup_op : Option ItemParts → Option ItemParts → Option Op
backup_op (Some item) kept = Some (Put item)
backup_op None (Some kept) = Some (DropOwners (map.keys kept.owners))
backup_op None None = None

-- the word of an operation, as it is told
abbrev pub op_word : Op → List ℕ
op_word (Put item) = codes "put"
op_word (SetField key value) = codes "set-field"
op_word (DropField key) = codes "drop-field"
op_word (SetFlag flag is_set) = codes "set-flag"
op_word (SetVar key value) = codes "set-var"
op_word (AddOwner owner) = codes "add-owner"
op_word (DropOwners owners) = codes "drop-owners"

-- the line that is told of an operation
abbrev pub told_line : Op → List ℕ → List ℕ
told_line op name = codes "debug: " ++ (op_word op ++ (32 ∷ (name ++ 10 ∷ [])))

-- a line more was told
abbrev pub then_told : List ℕ → StoreState → StoreState
then_told line store = stored store.layers (store.told ++ line)

-- A write of an operation on the item of a name, of which the kind may be known: the store that it leaves, or None where it is refused.
--   One database: by what the operation makes of its item.
--   A stack: the write to the first child that holds the item, if that takes it. Else what the operation makes of the item is put to the
--   first child above that takes it; that is to the first of all, where no child holds the item.
--   A backup: the write to the first plan; and then the second is brought up to it, and what it refuses isn't told.
--   A plan that tells: the write to its plan, and a line of it.
abbrev mutual
  pub write : StoreState → Tree → List ℕ → Option Kind → Op → Option StoreState
  write store (Leaf place) name kind op = leaf_written store place name kind (after_at op (item_at store.layers place name))
  write store (Stack plans) name kind op =
      or_else (write_held store plans name kind op)
      (put_above store (after_at op (look_of store.layers (leaves_of plans) name)) (λ put. write_first store plans name kind put))
  write store (Backup first second) name kind op =
      option_map
      (λ s. unwrap_or (option_and_then (λ o. write s second name kind o) (backup_op (look s.layers first name) (look s.layers second name))) s)
      (write store first name kind op)
  write store (Debug plan) name kind op = option_map (then_told (told_line op name)) (write store plan name kind op)

  -- the write to the first child that holds the item
  pub write_held : StoreState → Trees → List ℕ → Option Kind → Op → Option StoreState
  write_held store End name kind op = None
  write_held store (More plan plans) name kind op =
      if holds store.layers plan name then write store plan name kind op else write_held store plans name kind op

  -- the write to the first child that takes it, of those above the one that holds an item
  pub write_first : StoreState → Trees → List ℕ → Option Kind → Op → Option StoreState
  write_first store End name kind op = None
  write_first store (More plan plans) name kind op =
      if holds store.layers plan name then None else or_else (write store plan name kind op) (write_first store plans name kind op)

-- ---- which writes are taken

-- A write would be taken.
abbrev pub would_take : List LayerState → Tree → List ℕ → Option Kind → Op → Bool
would_take layers plan name kind op = is_some (write (stored layers []) plan name kind op)

-- it would be taken by a child above the one that holds the item
abbrev pub first_would_take : List LayerState → Trees → List ℕ → Option Kind → Op → Bool
first_would_take layers plans name kind op = is_some (write_first (stored layers []) plans name kind op)

-- An item is there and can be changed: by the database that has it; by the first child that holds it, or a child above that takes it;
-- by the first plan of a backup.
abbrev mutual
  pub can_change : List LayerState → Tree → List ℕ → Option Kind → Bool
  can_change layers (Leaf place) name kind = has_at layers name place && is_writable_at layers place
  can_change layers (Stack plans) name kind =
      can_change_held layers plans name kind
      || option_map_or (λ item. first_would_take layers plans name kind (Put item)) (look_of layers (leaves_of plans) name) false
  can_change layers (Backup first second) name kind = can_change layers first name kind
  can_change layers (Debug plan) name kind = can_change layers plan name kind

  pub can_change_held : List LayerState → Trees → List ℕ → Option Kind → Bool
  can_change_held layers End name kind = false
  can_change_held layers (More plan plans) name kind =
      if holds layers plan name then can_change layers plan name kind else can_change_held layers plans name kind
