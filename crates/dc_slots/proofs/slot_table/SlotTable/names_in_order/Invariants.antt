use Rattle.std.proofs.Common.{◌≡◌, ◌++◌}
use Rattle.std.specs.FinMap as map
use Rattle.dc_text.proofs.MapLemmas.{seen}
use Rattle.dc_slots.proofs.OperationLemmas.{names_with_value}
use Rattle.dc_slots.proofs.slot_table.SlotTable.names_in_order.Given as goal

abbrev pub invariant-loop-number : goal.invariant-loop-number
invariant-loop-number g l = l.names ++ names_with_value l.self-inside.slots (seen (λ k. k.items) l.number-iterator) ≡ map.keys l.self.values
