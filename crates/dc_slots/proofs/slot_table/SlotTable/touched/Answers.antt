use Rattle.std.proofs.Common.{ap, subst}
use Rattle.std.specs.List.{IsDistinct}
use Rattle.std.specs.Str.{bytes_eq}
use Rattle.dc_slots.proofs.TiedLemmas.{names_distinct}
use Rattle.dc_slots.proofs.slot_table.SlotTable.touched.Goals as goal

pub returns-clause-distinct : goal.returns-clause-distinct
returns-clause-distinct g c =
    subst (IsDistinct bytes_eq) (ap (λ t. t.touched) c.self.view_is)
    (names_distinct c.self.inside.places c.self.inside.slots c.self.inside.owners c.self.invariant.tied c.self.inside.slots.touched c.self.invariant.tied.touched c.touched.ensures.distinct)
