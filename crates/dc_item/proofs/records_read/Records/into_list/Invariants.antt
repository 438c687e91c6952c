use Rattle.std.proofs.Common.{◌≡◌, ◌++◌, true, length}
use Rattle.std.specs.List.{list_all}
use Rattle.dc_text.specs.Names.{is_name}
use Rattle.dc_item.specs.RecordsRead.{with_lines, names_in}
use Rattle.dc_item.proofs.records_read.Records.into_list.Given as goal

abbrev pub invariant-loop-key : goal.invariant-loop-key
invariant-loop-key l = record {
  as_many : length l.rest ≡ length l.key-iterator;
  named : list_all is_name (names_in l.key-iterator) ≡ true;
  so_far : l.list ++ with_lines l.key-iterator l.rest ≡ l.fn.self;
}
