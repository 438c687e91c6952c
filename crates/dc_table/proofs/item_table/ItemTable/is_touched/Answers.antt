use Rattle.std.proofs.Common.{subst}
use Rattle.std.specs.List.{IsDistinct}
use Rattle.std.specs.Str.{bytes_eq}
use Rattle.dc_table.specs.Marks.{marks_of}
use Rattle.dc_table.specs.Tracked.{Tracked}
use Rattle.dc_table.proofs.MarkLemmas.{touched_apart}
use Rattle.dc_table.proofs.item_table.ItemTable.is_touched.Goals as goal

pub returns-clause-distinct : goal.returns-clause-distinct
returns-clause-distinct c =
    subst (λ (t : Tracked). IsDistinct bytes_eq t.touched) c.self.view_is
    (touched_apart c.self.inside.items.entries (marks_of c.self.inside.touched) c.self.invariant.1 c.as_slice-entries.ensures.unique c.is_empty.ensures.apart)
