use Rattle.std.proofs.Common.{length, sym, ap, ◌∙◌}
use Rattle.dc_item.proofs.RecordsReadLemmas.{length-with_lines}
use Rattle.dc_item.proofs.records_read.Records.len.Goals as goal

pub returns : goal.returns
returns c = c.len.ensures.len ∙ sym (length-with_lines _ c.self.inside.lines.items c.self.invariant.0.as_many) ∙ ap length c.self.view_is
