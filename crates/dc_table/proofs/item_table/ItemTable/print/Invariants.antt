use Rattle.std.proofs.Common.{◌≡◌, ◌++◌, drop, map as each}
use Rattle.std.specs.List.{flat_map}
use Rattle.dc_text.specs.Lines.{text_of}
use Rattle.dc_item.specs.Printed.{record_lines, table_text}
use Rattle.dc_table.proofs.item_table.ItemTable.print.Given as goal

abbrev pub invariant-loop-name : goal.invariant-loop-name
invariant-loop-name l = l.text ++ text_of (flat_map record_lines (each (λ e. (e.0.now, e.1.now)) (drop l.name-index l.name-items))) ≡ table_text l.self.items
