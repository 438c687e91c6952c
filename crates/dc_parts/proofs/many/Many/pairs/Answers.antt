use Rattle.std.proofs.Common.{ap, ◌∙◌, sym}
use Rattle.std.specs.FinMap as map
use Rattle.dc_text.specs.Maps.{text_cmp}
use Rattle.dc_parts.proofs.many.Many.pairs.Goals as goal

pub returns : goal.returns
returns c =
    c.as_slice.ensures.value ∙ sym (map.entries-from_sorted text_cmp c.self.inside.pairs.items c.self.invariant) ∙ ap map.entries c.self.view_is
