use Rattle.dc_text.specs.Lines.{lines_of}
use Rattle.dc_item.proofs.ReaderLemmas.{names_apart}
use Rattle.dc_item.proofs.ReadTables.{read_is_table}
use Rattle.dc_item.proofs.laws.records_are_a_table.Goals as goal

pub returns : goal.returns
returns c = record {
  names = λ text records r. names_apart (lines_of text) records r;
  table = λ text records r. read_is_table (lines_of text) records r;
}
