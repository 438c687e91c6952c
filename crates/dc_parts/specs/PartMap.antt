-- Where a part map and its builder keep their entries. No public clause cites this module.
use Rattle.std.specs.Prelude.{ℕ, List}
use Rattle.dc_text.specs.Maps.{Texts}
use Rattle.dc_parts.specs.declared.part_map.Kept.{Kept}
use Rattle.dc_parts.specs.declared.part_map.Kept.TheVariants.{Few, Many}
use Rattle.dc_parts.specs.declared.builder.Built.{Built}
use Rattle.dc_parts.specs.declared.builder.Built.TheVariants as built

abbrev pub map_in : Kept → Texts (List ℕ)
map_in (Few entries) = entries
map_in (Many entries) = entries

abbrev pub map_built : Built → Texts (List ℕ)
map_built (built.Few entries) = entries
map_built (built.Many entries) = entries
