-- Keys that are given as a mark and the rest. No public clause cites this module.
use Rattle.std.specs.Prelude.{ℕ, List, ◌∷◌}
use Rattle.dc_parts.specs.declared.part_key.PartKey.{PartKey}

-- the whole key, with its mark in front
abbrev pub whole : PartKey → List ℕ
whole key = key.mark ∷ key.key.now
