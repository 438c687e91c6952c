use Rattle.std.proofs.Common.{arith}
use Rattle.dc_parts.specs.Packed.{entries_in}
use Rattle.dc_parts.proofs.PackedLemmas.{none_in}
use Rattle.dc_parts.proofs.PlaceLemmas.{from_sorted_none}
use Rattle.dc_parts.proofs.packed_builder.PackedBuilder.take.Goals as goal

pub returns-clause-left : goal.returns-clause-left
returns-clause-left c = from_sorted_none (entries_in c.clear.new.self.items) (none_in _ (omega arith))
