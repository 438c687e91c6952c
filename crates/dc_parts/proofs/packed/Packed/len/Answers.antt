use Rattle.std.proofs.Common.{length, ap, ◌∙◌}
use Rattle.dc_parts.specs.Packed.{entries_in}
use Rattle.dc_parts.proofs.PackedLemmas.{len-packed}
use Rattle.dc_parts.proofs.packed.Packed.len.Goals as goal

pub returns : goal.returns
returns c =
    c.count_of.ensures ∙ ap (λ bytes. length (entries_in bytes)) c.deref.ensures.value
    ∙ len-packed (entries_in c.self.inside.bytes.items) c.args.self.now c.self.invariant.1 c.self.view_is
