use Rattle.std.proofs.Common.{arith}
use Rattle.dc_parts.specs.Packed.{entries_in}
use Rattle.dc_parts.proofs.PackedLemmas.{none_in}
use Rattle.dc_parts.proofs.PlaceLemmas.{from_sorted_none}
use Rattle.dc_parts.proofs.packed_builder.PackedBuilder.new.Goals as goal

pub returns : goal.returns
returns c = from_sorted_none (entries_in c.new.result.items) (none_in _ (omega arith))
