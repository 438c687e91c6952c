use Rattle.std.proofs.Common.{sym, ap}
use Rattle.dc_slots.specs.Numbered.{name_in}
use Rattle.dc_slots.proofs.ThreadLemmas.{is_opened, read}
use Rattle.dc_slots.proofs.slot_vector.SlotVector.name.Goals as goal

pub index-requires : goal.index-requires
index-requires g c = is_opened c.args.self.now c.self.inside.slots.slots c.self.inside.first_touched c.number.inside.number c.args.number c.self.view_is c.number.view_is c.requires

pub returns : goal.returns
returns g c = sym (ap name_in (read c.args.self.now c.self.inside.slots.slots c.self.inside.first_touched c.number.inside.number c.args.number c.index.result.now c.self.view_is c.number.view_is c.index.ensures))
