use Rattle.std.proofs.Common.{ap}
use Rattle.indexmap.specs.IndexMap.{index_map_len}
use Rattle.dc_table.specs.Marks.{are_within}
use Rattle.dc_table.proofs.TableLemmas.{named_none}
use Rattle.dc_table.proofs.item_table.ItemTable.new.Goals as goal

pub invariant_of-result : goal.invariant_of-result
invariant_of-result c = (named_none c.new.result.entries c.new.ensures.empty, ap (are_within (index_map_len c.new.result)) c.new-2.ensures)
