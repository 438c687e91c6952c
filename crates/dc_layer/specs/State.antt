-- What a layer is, what changes make of it, and the files that it asks for.
use Rattle.std.specs.Prelude.{ℕ, Bool, true, false, not, ◌&&◌, ◌||◌, codes, List, [], ◌∷◌, map as each, filter, fold, Option, Some, None, if◌then◌else◌}
use Rattle.std.specs.Option.{option_map, option_map_or, option_or}
use Rattle.std.specs.List.{flat_map}
use Rattle.std.specs.Str.{bytes_eq}
use Rattle.std.specs.FinMap as map
use Rattle.dc_text.specs.Bytes.{is_nil}
use Rattle.dc_text.specs.Lines.{text_of}
use Rattle.dc_item.specs.Item.{ItemParts}
use Rattle.dc_item.specs.After.{after_at}
use Rattle.dc_item.specs.Printed.{record_lines, table_text}
use Rattle.dc_item.specs.declared.op.Op.{Op}
use Rattle.dc_item.specs.declared.op.After.{After}
use Rattle.dc_item.specs.declared.op.After.TheVariants.{Same, Changed, Gone}
pub use Rattle.dc_table.specs.Tracked.{Table, is_put, touch, owned_in, owned}
use Rattle.dc_conf.specs.declared.spec.LayerSort.{LayerSort}
use Rattle.dc_conf.specs.declared.spec.LayerSort.TheVariants.{File, Tree, Pack, Pipe}
use Rattle.dc_conf.specs.declared.spec.LayerSpec.{LayerSpec}
use Rattle.dc_template.specs.declared.kinds.Kind.{Kind}
use Rattle.dc_layer.specs.declared.image.Image.{Image}
use Rattle.dc_layer.specs.declared.layer.Taken.{Taken}
use Rattle.dc_layer.specs.declared.layer.Taken.TheVariants as taken
use Rattle.dc_layer.specs.declared.layer.LayerError.{LayerError}
use Rattle.dc_layer.specs.declared.layer.LayerError.TheVariants.{ReadOnly, NotHere}
use Rattle.dc_layer.specs.Rules.{rules_of, accepts}
use Rattle.dc_layer.specs.Folders.{prefix, has_place_for, path_in}

-- A layer: how it is kept, its spec where it was set up, its table, the names whose items changed since it was loaded or saved
-- in the order in which they first did, whether it is left out, and the text that its file had.
pub record LayerState : Type 0 where
  pub sort : LayerSort
  pub spec : Option LayerSpec
  pub table : Table
  pub touched : List (List ℕ)
  pub left_out : Bool
  pub old : Option (List ℕ)

abbrev pub blank : LayerSort → LayerState
blank sort = record { sort = sort; spec = None; table = map.empty; touched = []; left_out = false; old = None }

abbrev pub set_up : LayerState → LayerSpec → LayerState
set_up layer spec = record layer { spec = Some spec }

-- with one more item that was loaded
abbrev pub taken_in : LayerState → List ℕ → ItemParts → LayerState
taken_in layer name item = record layer { table = map.insert layer.table name item }

-- left out: without items, and with nothing that a file would be asked for
abbrev pub without_items : LayerState → LayerState
without_items layer = record layer { table = map.empty; touched = []; left_out = true }

-- ---- what it takes

abbrev pub is_writable : LayerState → Bool
is_writable layer = option_map_or (λ spec. not spec.readonly) layer.spec false && not layer.left_out

-- it has a place for the name, and its rules accept the item
abbrev pub admits : LayerState → List ℕ → Option Kind → Bool
admits layer name kind = option_map_or (λ spec. has_place_for layer.sort spec.extension name && accepts (rules_of spec) name kind) layer.spec false

-- why the layer takes no operation on the name, if it doesn't
abbrev pub refusal : LayerState → List ℕ → Op → Option LayerError
refusal layer name op =
    if is_writable layer
    then (if not (map.contains_key layer.table name) && not (is_put op) then Some NotHere else None)
    else Some ReadOnly

-- what the operation makes of the item of the name
abbrev pub made_at : LayerState → List ℕ → Op → After
made_at layer name op = after_at op (map.get layer.table name)

abbrev pub taken_of : After → Taken
taken_of Same = taken.Same
taken_of (Changed item) = taken.Changed
taken_of Gone = taken.Gone

-- the layer with what became of the item of the name; all other names keep theirs
abbrev pub with_made : LayerState → List ℕ → After → LayerState
with_made layer name Same = layer
with_made layer name (Changed item) = record layer { table = map.insert layer.table name item; touched = touch layer.touched name }
with_made layer name Gone = record layer { table = map.remove layer.table name; touched = touch layer.touched name }

-- the layer once the operation on the item of the name is done
abbrev pub after_change : LayerState → List ℕ → Op → LayerState
after_change layer name op = with_made layer name (made_at layer name op)

-- ---- the files that it asks for

-- the file of a layer in one file: the printed table, and with backup the text that the file had
abbrev pub image_of : LayerSpec → Table → Option (List ℕ) → Image
image_of spec table old = record { path = spec.place; mode = spec.mode; bytes = Some (table_text table); old = if spec.backup then old else None }

-- a file in the folder of a layer, which goes where it is to hold no text
abbrev pub image_in : LayerSpec → List ℕ → Option (List ℕ) → Image
image_in spec name text = record { path = path_in spec name; mode = spec.mode; bytes = text; old = None }

-- the file of an item: its printed record, or none where it is gone
abbrev pub item_image : LayerSpec → Table → List ℕ → Image
item_image spec table name = image_in spec name (option_map (λ item. text_of (record_lines (name, item))) (map.get table name))

-- a text that isn't empty
abbrev pub unless_nil : List ℕ → Option (List ℕ)
unless_nil text = if is_nil text then None else Some text

-- the items whose names have the prefix, in byte order
abbrev pub with_prefix : Table → List ℕ → List (List ℕ × ItemParts)
with_prefix table front = filter (λ entry. bytes_eq (prefix entry.0) front) (map.entries table)

-- the file of a prefix: the printed records of all its items, each of which has lines, or none where there are none
abbrev pub prefix_image : LayerSpec → Table → List ℕ → Image
prefix_image spec table front = image_in spec front (unless_nil (text_of (flat_map record_lines (with_prefix table front))))

-- each name once, where it comes first
abbrev pub firsts : List (List ℕ) → List (List ℕ)
firsts names = fold touch [] names

-- the printed table as it goes out through a pipe, which is no file
abbrev pub pipe_image : Table → Image
pipe_image table = record { path = codes "-"; mode = 0; bytes = Some (table_text table); old = None }

-- what changed makes a layer ask for: in one file, that file; in a folder with a file for each item, the file of each touched name,
-- in their order; in one with a file for each prefix, the file of each prefix of a touched name, as it comes first; and one that goes
-- out through a pipe, its printed table
abbrev pub images_by : LayerSort → LayerSpec → LayerState → List Image
images_by File spec layer = if is_nil layer.touched then [] else image_of spec layer.table layer.old ∷ []
images_by Tree spec layer = each (item_image spec layer.table) (firsts layer.touched)
images_by Pack spec layer = each (prefix_image spec layer.table) (firsts (each prefix layer.touched))
images_by Pipe spec layer = if is_nil layer.touched || not spec.outfd then [] else pipe_image layer.table ∷ []

abbrev pub is_file : LayerSort → Bool
is_file File = true
is_file _ = false

abbrev pub is_pipe : LayerSort → Bool
is_pipe Pipe = true
is_pipe _ = false

-- the files that a layer asks for
abbrev pub images : LayerState → List Image
images layer = option_map_or (λ spec. images_by layer.sort spec layer) layer.spec []

-- those that are saved in files: all but what goes out through a pipe
abbrev pub file_images : LayerState → List Image
file_images layer = if is_pipe layer.sort then [] else images layer

-- the text of the first image, if there is one
abbrev pub first_text : List Image → Option (List ℕ)
first_text [] = None
first_text (image ∷ images) = image.bytes

-- the text that goes out through a pipe, if one does
abbrev pub piped : LayerState → Option (List ℕ)
piped layer = if is_pipe layer.sort then first_text (images layer) else None

-- the one that goes out of all these layers
abbrev pub piped_of : List LayerState → Option (List ℕ)
piped_of [] = None
piped_of (layer ∷ layers) = option_or (piped layer) (piped_of layers)

-- the text that is kept of a layer's file once its images are saved: in one file, with backup, the text that was saved
abbrev pub old_by : LayerSort → LayerSpec → LayerState → Option (List ℕ)
old_by File spec layer = if is_nil layer.touched then layer.old else if spec.backup then Some (table_text layer.table) else layer.old
old_by _ spec layer = layer.old

abbrev pub old_after : LayerState → Option (List ℕ)
old_after layer = option_map_or (λ spec. old_by layer.sort spec layer) layer.spec layer.old

-- once its images are saved
abbrev pub saved : LayerState → LayerState
saved layer = record layer { touched = []; old = old_after layer }
