use Rattle.dc_item.proofs.RecordsReadLemmas.{none_kept}
use Rattle.dc_item.proofs.records_read.Records.new.Goals as goal

pub invariant_of-result : goal.invariant_of-result
invariant_of-result c = (none_kept _ c.new-2.result.items c.new.ensures.empty c.new-2.ensures.items, c.new-3.ensures)
