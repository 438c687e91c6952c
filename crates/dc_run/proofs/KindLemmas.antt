-- Each layer stays one of its database.
use Rattle.std.proofs.Common.{◌≡◌, ℕ, List, [], ◌∷◌, map as each, Option, refl}
use Rattle.dc_conf.specs.declared.spec.LayerSort.{LayerSort}
use Rattle.dc_conf.specs.declared.spec.LayerSpec.{LayerSpec}
use Rattle.dc_layer.specs.State.{LayerState}
use Rattle.dc_store.specs.StoreLaws.{AreSameButAll}

abbrev pub Kind : Type 0
Kind = LayerSort × Option LayerSpec

abbrev pub kind_of : LayerState → Kind
kind_of layer = (layer.sort, layer.spec)

abbrev pub specs_in : List LayerState → List Kind
specs_in layers = each kind_of layers

pub same_specs : (names : List (List ℕ)) (old new : List LayerState) → AreSameButAll names old new → specs_in new ≡ specs_in old
same_specs names [] [] is = refl
same_specs names [] (layer ∷ new) is = absurd is
same_specs names (layer ∷ old) [] is = absurd is
same_specs names (layer ∷ old) (made ∷ new) is = λ i. (is.0.sort i, is.0.spec i) ∷ same_specs names old new is.1 i
