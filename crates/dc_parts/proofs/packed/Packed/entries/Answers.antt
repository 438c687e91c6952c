use Rattle.std.proofs.Common.{ap, ◌∙◌, sym}
use Rattle.std.specs.FinMap as map
use Rattle.dc_text.specs.Maps.{text_cmp}
use Rattle.dc_parts.specs.Packed.{entries_in}
use Rattle.dc_parts.proofs.packed.Packed.entries.Goals as goal

pub returns : goal.returns
returns c =
    c.in_ok-entries.ensures ∙ ap entries_in c.deref.ensures.value
    ∙ sym (map.entries-from_sorted text_cmp (entries_in c.self.inside.bytes.items) c.self.invariant.1)
    ∙ ap map.entries c.self.view_is
