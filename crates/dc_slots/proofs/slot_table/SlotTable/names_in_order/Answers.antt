use Rattle.std.proofs.Common.{◌++◌, ap, ◌∙◌}
use Rattle.std.specs.FinMap as map
use Rattle.dc_text.proofs.MapLemmas.{seen}
use Rattle.dc_slots.proofs.OperationLemmas.{names_with_value, names_are_keys}
use Rattle.dc_slots.proofs.slot_table.SlotTable.names_in_order.Goals as goal

pub loop-number-init : goal.loop-number-init
loop-number-init g c =
    ap (λ l. l ++ names_with_value c.self.inside.slots (seen (λ k. k.items) c.into_iter-number-iterator.result)) c.new-names.ensures
    ∙ ap (names_with_value c.self.inside.slots) (ap (seen (λ k. k.items)) c.into_iter-number-iterator.ensures.into_iter_gives ∙ c.iter-number-items.ensures)
    ∙ names_are_keys c.self.inside.slots c.self.inside.places c.self.inside.owners c.self.invariant.tied
    ∙ ap (λ t. map.keys t.values) c.self.view_is
