-- The entries of a map, as far as they are left.
use Rattle.std.specs.Prelude.{ℕ, List}
use Rattle.dc_parts.specs.Packed.{entries_in}
use Rattle.dc_parts.specs.declared.entries.Entries.{Entries}
use Rattle.dc_parts.specs.declared.entries.Left.{Left}
use Rattle.dc_parts.specs.declared.entries.Left.TheVariants.{Few, Many}

abbrev pub left_in : Left → List (List ℕ × List ℕ)
left_in (Few few) = entries_in few.bytes.now
left_in (Many pairs) = pairs.now

abbrev pub entries_left : Entries → List (List ℕ × List ℕ)
entries_left entries = left_in entries.left
