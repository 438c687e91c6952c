use Rattle.std.proofs.Common.{sym, ap, ◌∙◌}
use Rattle.dc_slots.specs.Numbered.{owners_in}
use Rattle.dc_slots.proofs.ThreadLemmas.{opened, read, seen}
use Rattle.dc_slots.proofs.slot_vector.SlotVector.owners.Goals as goal

pub returns-in-Some : goal.returns-in-Some
returns-in-Some g c = sym (ap owners_in (read c.args.self.now c.self.inside.slots.slots c.self.inside.first_touched c.number.inside.number c.args.number c.in-Some.slot.now c.self.view_is c.number.view_is (sym c.in-Some.ensures)))

pub returns-in-None : goal.returns-in-None
returns-in-None g c = sym (ap owners_in (opened c.args.self.now c.self.inside.slots.slots c.self.inside.first_touched c.number.inside.number c.args.number c.self.view_is c.number.view_is ∙ ap seen (sym c.in-None.ensures)))
