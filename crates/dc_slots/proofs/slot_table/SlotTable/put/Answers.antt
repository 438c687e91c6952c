use Rattle.std.proofs.Common.{◌∙◌}
use Rattle.dc_slots.proofs.PlaceLemmas.{has_place}
use Rattle.dc_slots.proofs.OperationLemmas.{put_old, put_seen, unused, on_err}
use Rattle.dc_slots.proofs.slot_table.SlotTable.put.Goals as goal

pub set_value-requires : goal.set_value-requires
set_value-requires g c = (has_place c.self.inside.places c.place_for.new.places c.self.inside.slots c.place_for.new.slots c.self.inside.owners c.args.self.now c.self.invariant c.self.view_is c.args.name.now c.in_ok-number.number c.in_ok-number.ensures.ok).kept

pub invariant_of-self-2 : goal.invariant_of-self-2
invariant_of-self-2 g c = (put_seen c.self.inside.places c.self.inside.slots c.self.inside.owners c.args.self.now c.self.invariant c.self.view_is c.args.name.now c.in_ok-number.number c.place_for.new.places c.place_for.new.slots c.set_value.new.self c.args.value c.in_ok-number.ensures.ok c.set_value.ensures.new).sound

pub returns-clause-old : goal.returns-clause-old
returns-clause-old g c = c.set_value.ensures.old ∙ put_old c.self.inside.places c.self.inside.slots c.self.inside.owners c.args.self.now c.self.invariant c.self.view_is c.args.name.now c.in_ok-number.number c.place_for.new.places c.place_for.new.slots c.in_ok-number.ensures.ok

pub returns-clause-ok : goal.returns-clause-ok
returns-clause-ok g c = (put_seen c.self.inside.places c.self.inside.slots c.self.inside.owners c.args.self.now c.self.invariant c.self.view_is c.args.name.now c.in_ok-number.number c.place_for.new.places c.place_for.new.slots c.set_value.new.self c.args.value c.in_ok-number.ensures.ok c.set_value.ensures.new).shown

pub returns-in_err-number-clause-unused : goal.returns-in_err-number-clause-unused
returns-in_err-number-clause-unused g c = on_err c.from_residual.result (unused c.self.inside.places c.self.inside.slots c.self.inside.owners c.args.self.now c.self.invariant c.self.view_is c.args.name.now c.in_err-number.ensures.none)
