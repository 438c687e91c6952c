use Rattle.dc_item.proofs.PrintedText.{table_again}
use Rattle.dc_item.proofs.laws.printed_tables_are_read.Goals as goal

pub returns : goal.returns
returns c = table_again
