-- A write to one layer, and to a stack of databases alone, from the top: five cases.
use Rattle.std.specs.Prelude.{ℕ, zero, suc, Bool, true, false, ◌&&◌, List, [], ◌∷◌, Option, Some, None, is_some, option_map, option_and_then, slice_get, if◌then◌else◌}
use Rattle.std.specs.Option.{option_map_or}
use Rattle.std.specs.List.{find}
use Rattle.dc_item.specs.After.{after_at}
use Rattle.dc_item.specs.Item.{ItemParts}
use Rattle.dc_item.specs.declared.op.Op.{Op}
use Rattle.dc_item.specs.declared.op.After.{After}
use Rattle.dc_item.specs.declared.op.After.TheVariants.{Same, Changed, Gone}
use Rattle.dc_template.specs.declared.kinds.Kind.{Kind}
use Rattle.dc_layer.specs.State.{LayerState, is_writable, admits, with_made}
use Rattle.dc_store.specs.Holders.{has_at, holder_of, look_of, above}

abbrev pub is_writable_at : List LayerState → ℕ → Bool
is_writable_at layers place = option_map_or is_writable (slice_get layers place) false

-- the layer at the place is writable, and may hold an item of this name and kind
abbrev pub takes_at : List LayerState → List ℕ → Option Kind → ℕ → Bool
takes_at layers name kind place = option_map_or (λ layer. is_writable layer && admits layer name kind) (slice_get layers place) false

-- the layer at the place may be given what became of the item: it is writable, and has the item or admits it
abbrev pub is_open_at : List LayerState → List ℕ → Option Kind → ℕ → Bool
is_open_at layers name kind place = if has_at layers name place then is_writable_at layers place else takes_at layers name kind place

-- the operation makes something else of the item
abbrev pub is_change : After → Bool
is_change Same = false
is_change _ = true

-- the holder, where it is writable
abbrev pub writable_holder : List LayerState → List ℕ → List ℕ → Option ℕ
writable_holder layers places name =
    option_and_then (λ place. if is_writable_at layers place then Some place else None) (holder_of layers places name)

-- Where a new item goes, and the copy of one whose holder isn't writable: to the topmost layer above the holder, or of all where
-- there is none, that is writable and admits it.
abbrev pub copy_target : List LayerState → List ℕ → List ℕ → Option Kind → Option ℕ
copy_target layers places name kind = find (takes_at layers name kind) (above layers places name)

-- Where an item lands that is put and goes to a layer as it is: to the holder, if it is writable, and home where there is none. Where
-- the holder isn't writable the item is compared with the holder's first.
abbrev pub put_target : List LayerState → List ℕ → List ℕ → Option Kind → Option ℕ
put_target layers places name kind = if is_some (holder_of layers places name) then writable_holder layers places name else copy_target layers places name kind

-- the layers with the one at a place changed
abbrev pub change_at : List LayerState → ℕ → (LayerState → LayerState) → List LayerState
change_at [] place f = []
change_at (layer ∷ layers) zero f = f layer ∷ layers
change_at (layer ∷ layers) (suc place) f = layer ∷ change_at layers place f

-- the layers with what became of the item put into the one at a place
abbrev pub put_at : List LayerState → ℕ → List ℕ → After → List LayerState
put_at layers place name made = change_at layers place (λ layer. with_made layer name made)

-- an item put to a place where there is one, or refused
abbrev pub put_up : List LayerState → Option ℕ → List ℕ → ItemParts → Option (List LayerState)
put_up layers place name item = option_map (λ p. put_at layers p name (Changed item)) place

-- The cases of a write, by the holder where that is writable, the home, and what the operation makes of the item that is seen:
-- the layers that it leaves, or None where it is refused.
--   The item stays as it is: all layers stay.
--   The holder is writable: it changes.
--   The holder isn't writable, and the item would go: refused.
--   The holder isn't writable, or there is none: the home gets the whole changed item, and without a home it is refused.
abbrev pub by_case : List LayerState → Option ℕ → Option ℕ → List ℕ → After → Option (List LayerState)
by_case layers held copy_target name Same = Some layers
by_case layers (Some holder) copy_target name (Changed item) = Some (put_at layers holder name (Changed item))
by_case layers (Some holder) copy_target name Gone = Some (put_at layers holder name Gone)
by_case layers None copy_target name Gone = None
by_case layers None copy_target name (Changed item) = put_up layers copy_target name item

-- the same where no writable layer has the item
abbrev pub by_copy : List LayerState → List ℕ → List ℕ → Option Kind → After → Option (List LayerState)
by_copy layers places name kind made = by_case layers None (copy_target layers places name kind) name made

-- A write of an operation on the item of a name, of which the kind may be known.
abbrev pub write_of : List LayerState → List ℕ → List ℕ → Option Kind → Op → Option (List LayerState)
write_of layers places name kind op =
    by_case layers (writable_holder layers places name) (copy_target layers places name kind) name (after_at op (look_of layers places name))
