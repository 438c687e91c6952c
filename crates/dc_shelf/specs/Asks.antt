-- What layers ask to be saved, one after another. The proofs alone speak of it.
use Rattle.std.specs.Prelude.{◌≡◌, List, ◌++◌, map as each}
use Rattle.std.specs.Option.{option_or}
use Rattle.dc_layer.specs.State.{LayerState, file_images, piped_of}
use Rattle.dc_shelf.specs.declared.saving.Asked.{Asked}

-- what these layers ask was added
pub record Gathers (layers : List LayerState) (old new : Asked) : Type 0 where
  pub files : new.files ≡ old.files ++ each file_images layers
  pub text : new.text ≡ option_or old.text (piped_of layers)
