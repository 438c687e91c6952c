-- A layer in which nothing is touched asks for no file.
use Rattle.std.proofs.Common.{◌≡◌, false, cond, List, [], ◌∷◌, ℕ, Some, None, refl, ap, map as each}
use Rattle.std.specs.Prelude.{not, ◌||◌}
use Rattle.std.specs.Option.{option_map_or}
use Rattle.dc_text.specs.Bytes.{is_nil}
use Rattle.dc_conf.specs.declared.spec.LayerSort.{LayerSort}
use Rattle.dc_conf.specs.declared.spec.LayerSort.TheVariants.{File, Tree, Pack, Pipe}
use Rattle.dc_conf.specs.declared.spec.LayerSpec.{LayerSpec}
use Rattle.dc_layer.specs.Folders.{prefix}
use Rattle.dc_layer.specs.State.{LayerState, images, images_by, image_of, item_image, prefix_image, pipe_image, firsts}

none_touched : (touched : List (List ℕ)) → not (is_nil touched) ≡ false → touched ≡ []
none_touched [] e = refl
none_touched (name ∷ names) e = absurd (cc)

none_by : (sort : LayerSort) (spec : LayerSpec) (layer : LayerState) → layer.touched ≡ [] → images_by sort spec layer ≡ []
none_by File spec layer e = ap (λ t. cond (is_nil t) [] (image_of spec layer.table layer.old ∷ [])) e
none_by Tree spec layer e = ap (λ t. each (item_image spec layer.table) (firsts t)) e
none_by Pack spec layer e = ap (λ t. each (prefix_image spec layer.table) (firsts (each prefix t))) e
none_by Pipe spec layer e = ap (λ t. cond (is_nil t || not spec.outfd) [] (pipe_image layer.table ∷ [])) e

pub none_asked : (layer : LayerState) → not (is_nil layer.touched) ≡ false → images layer ≡ []
none_asked layer e = elim layer.spec as (λ s. option_map_or (λ spec. images_by layer.sort spec layer) s [] ≡ []) [
  | None ↦ refl
  | Some spec ↦ none_by layer.sort spec layer (none_touched layer.touched e)
]
