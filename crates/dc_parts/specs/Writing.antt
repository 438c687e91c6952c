-- What is written among packed entries. No public clause cites this module.
use Rattle.std.specs.Prelude.{ℕ, List, [], ◌∷◌, ◌++◌, take, drop}
use Rattle.dc_parts.specs.Packed.{packed, packed_text}
use Rattle.dc_parts.specs.declared.writing.ShortKey.{ShortKey}

-- one entry, packed
abbrev pub packed_entry : List ℕ → List ℕ → List ℕ
packed_entry key value = packed ((key, value) ∷ [])

-- one of which each length takes one byte
abbrev pub short_entry : ShortKey → List ℕ → List ℕ
short_entry key value = (key.first ∷ key.second ∷ key.rest.now) ++ packed_text value

-- the bytes with others in the place of those from the start to the end
abbrev pub spliced : ℕ → ℕ → List ℕ → List ℕ → List ℕ
spliced start end others bytes = take start bytes ++ (others ++ drop end bytes)
