use Rattle.std.proofs.Common.{ap, ◌∙◌}
use Rattle.dc_item.specs.Table.{table_of}
use Rattle.dc_item.proofs.RecordsReadLemmas.{table-with_lines, keys_named}
use Rattle.dc_item.proofs.records_read.Records.into_entries.Goals as goal

pub returns-clause-table : goal.returns-clause-table
returns-clause-table c = table-with_lines _ c.self.inside.lines.items c.self.invariant.0.as_many ∙ ap table_of c.self.view_is

pub returns-clause-names : goal.returns-clause-names
returns-clause-names c = λ name there. keys_named _ name c.self.invariant.0.named there
