-- Which names the layers have for an owner.
use Rattle.std.specs.Prelude.{ℕ, List, [], slice_get}
use Rattle.std.specs.Option.{option_map_or}
use Rattle.dc_layer.specs.State.{LayerState, owned}

-- the names of the items that have the owner in the table of the layer at a place
abbrev pub owned_at : List LayerState → List ℕ → ℕ → List (List ℕ)
owned_at layers owner place = option_map_or (λ layer. owned layer.table owner) (slice_get layers place) []
