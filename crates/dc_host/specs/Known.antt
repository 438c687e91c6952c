-- The paths at which a file is known to stand.
use Rattle.std.specs.Prelude.{ℕ, List}
use Rattle.std.specs.FinMap as map
use Rattle.dc_text.specs.Maps.{TextSet}

-- what is known once the file at `from` is put at `to`: nothing of the one, unless it is the other
abbrev pub known_renamed : TextSet → List ℕ → List ℕ → TextSet
known_renamed known from to = map.insert (map.remove known from) to tt
