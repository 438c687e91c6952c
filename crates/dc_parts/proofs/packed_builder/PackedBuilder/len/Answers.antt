use Rattle.std.proofs.Common.{◌∙◌}
use Rattle.dc_parts.specs.Packed.{entries_in}
use Rattle.dc_parts.proofs.PackedLemmas.{len-packed}
use Rattle.dc_parts.proofs.packed_builder.PackedBuilder.len.Goals as goal

pub returns : goal.returns
returns c = c.self.invariant.2 ∙ len-packed (entries_in c.self.inside.bytes.items) c.args.self.now c.self.invariant.1 c.self.view_is
