-- Places, each once, in an order, and beside it a mark for each place. No public clause cites this module.
use Rattle.std.specs.Prelude.{◌≡◌, ℕ, Bool, false, List, [], ◌∷◌, ◌++◌, nat_eq, slice_index_or, if◌then◌else◌}
use Rattle.std.specs.List.{list_any, IsDistinct}

-- the places with this one, last, unless it is among them
abbrev pub put : List ℕ → ℕ → List ℕ
put places place = if list_any (nat_eq place) places then places else places ++ place ∷ []

-- no place comes twice, and exactly those in the order have their mark
pub record AreMarked (order : List ℕ) (marks : List Bool) : Type 0 where
  pub mark : (place : ℕ) → slice_index_or marks place false ≡ list_any (nat_eq place) order
  pub distinct : IsDistinct nat_eq order
