-- Which of the layers of a stack has an item (debconf.conf(5), Stack): they are asked from the top.
use Rattle.std.specs.Prelude.{ℕ, ◌<◌, Bool, List, Option, is_some, option_and_then, slice_get}
use Rattle.std.specs.List.{All, find, list_any, before_first, after_first}
use Rattle.std.specs.FinMap as map
use Rattle.dc_item.specs.Item.{ItemParts}
use Rattle.dc_layer.specs.State.{LayerState}

-- each of the places is that of one of so many layers
abbrev pub AreWithin : List ℕ → ℕ → Type 0
AreWithin places count = All (λ place. place < count) places

-- the item that the layer at a place has under the name
abbrev pub item_at : List LayerState → ℕ → List ℕ → Option ItemParts
item_at layers place name = option_and_then (λ layer. map.get layer.table name) (slice_get layers place)

abbrev pub has_at : List LayerState → List ℕ → ℕ → Bool
has_at layers name place = is_some (item_at layers place name)

-- The holder: the topmost of the places whose layer has the item.
abbrev pub holder_of : List LayerState → List ℕ → List ℕ → Option ℕ
holder_of layers places name = find (has_at layers name) places

-- what is seen under the name: the item of the holder
abbrev pub look_of : List LayerState → List ℕ → List ℕ → Option ItemParts
look_of layers places name = option_and_then (λ place. item_at layers place name) (holder_of layers places name)

-- one of the places has the item
abbrev pub holds_of : List LayerState → List ℕ → List ℕ → Bool
holds_of layers places name = is_some (holder_of layers places name)

-- the places above the holder, which are all of them where no layer has the item
abbrev pub above : List LayerState → List ℕ → List ℕ → List ℕ
above layers places name = before_first (has_at layers name) places

-- the places below the holder
abbrev pub below : List LayerState → List ℕ → List ℕ → List ℕ
below layers places name = after_first (has_at layers name) places

-- what is seen under the name below the holder
abbrev pub look_below_of : List LayerState → List ℕ → List ℕ → Option ItemParts
look_below_of layers places name = look_of layers (below layers places name) name

-- a layer below the holder has an item of this name too
abbrev pub has_below_of : List LayerState → List ℕ → List ℕ → Bool
has_below_of layers places name = list_any (has_at layers name) (below layers places name)
