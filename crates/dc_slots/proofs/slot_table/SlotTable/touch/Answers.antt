use Rattle.std.proofs.Common.{sym, ◌∙◌}
use Rattle.dc_slots.proofs.PlaceLemmas.{has_place}
use Rattle.dc_slots.proofs.OperationLemmas.{touched_seen_new, touched_seen_old, unused, on_err}
use Rattle.dc_slots.proofs.slot_table.SlotTable.touch.Goals as goal

pub returns-in_err-number-clause-unused : goal.returns-in_err-number-clause-unused
returns-in_err-number-clause-unused g c = on_err c.from_residual.result (unused c.self.inside.places c.self.inside.slots c.self.inside.owners c.args.self.now c.self.invariant c.self.view_is c.args.name.now c.in_err-number.ensures.none)

pub is_touched-requires : goal.is_touched-requires
is_touched-requires g c = (has_place c.self.inside.places c.place_for.new.places c.self.inside.slots c.place_for.new.slots c.self.inside.owners c.args.self.now c.self.invariant c.self.view_is c.args.name.now c.in_ok-number.number c.in_ok-number.ensures.ok).kept

pub returns-then-is_touched-clause-ok : goal.returns-then-is_touched-clause-ok
returns-then-is_touched-clause-ok g c = (touched_seen_old c.self.inside.places c.self.inside.slots c.self.inside.owners c.args.self.now c.self.invariant c.self.view_is c.args.name.now c.in_ok-number.number c.place_for.new.places c.place_for.new.slots c.in_ok-number.ensures.ok (sym c.is_touched.ensures ∙ c.if-is_touched.true)).shown

pub touch-requires-clause-kept : goal.touch-requires-clause-kept
touch-requires-clause-kept g c = (has_place c.self.inside.places c.place_for.new.places c.self.inside.slots c.place_for.new.slots c.self.inside.owners c.args.self.now c.self.invariant c.self.view_is c.args.name.now c.in_ok-number.number c.in_ok-number.ensures.ok).kept

pub invariant_of-self-2 : goal.invariant_of-self-2
invariant_of-self-2 g c = (touched_seen_new c.self.inside.places c.self.inside.slots c.self.inside.owners c.args.self.now c.self.invariant c.self.view_is c.args.name.now c.in_ok-number.number c.place_for.new.places c.place_for.new.slots c.touch.new.self c.in_ok-number.ensures.ok (sym c.is_touched.ensures ∙ c.if-is_touched.false) c.touch.ensures).sound

pub returns-clause-ok : goal.returns-clause-ok
returns-clause-ok g c = (touched_seen_new c.self.inside.places c.self.inside.slots c.self.inside.owners c.args.self.now c.self.invariant c.self.view_is c.args.name.now c.in_ok-number.number c.place_for.new.places c.place_for.new.slots c.touch.new.self c.in_ok-number.ensures.ok (sym c.is_touched.ensures ∙ c.if-is_touched.false) c.touch.ensures).shown
