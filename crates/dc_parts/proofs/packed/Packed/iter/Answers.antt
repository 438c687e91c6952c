use Rattle.std.proofs.Common.{ap, ◌∙◌, sym, subst}
use Rattle.std.specs.FinMap as map
use Rattle.dc_text.specs.Maps.{text_cmp}
use Rattle.dc_parts.specs.Packed.{entries_in, IsPacked}
use Rattle.dc_parts.proofs.packed.Packed.iter.Goals as goal

pub of-requires : goal.of-requires
of-requires c = subst IsPacked (sym c.deref.ensures.value) c.self.invariant.0

pub returns : goal.returns
returns c =
    ap entries_in (c.of.ensures ∙ c.deref.ensures.value)
    ∙ sym (map.entries-from_sorted text_cmp (entries_in c.self.inside.bytes.items) c.self.invariant.1)
    ∙ ap map.entries c.self.view_is
