use Rattle.std.proofs.Common.{sym, ap, ◌∙◌}
use Rattle.std.specs.Prelude.{is_some}
use Rattle.std.specs.FinMap as map
use Rattle.dc_slots.specs.Numbered.{Numbered}
use Rattle.dc_slots.proofs.TiedLemmas.{put-here}
use Rattle.dc_slots.proofs.OperationLemmas.{take_seen, take_old, nothing_to_take, unused}
use Rattle.dc_slots.proofs.slot_table.SlotTable.take.Goals as goal

pub returns-in_err-number-clause-value : goal.returns-in_err-number-clause-value
returns-in_err-number-clause-value g c = c.from_residual.ensures ∙ sym (unused c.self.inside.places c.self.inside.slots c.self.inside.owners c.args.self.now c.self.invariant c.self.view_is c.args.name.now (sym c.number_of.ensures ∙ c.in_err-number.was)).value

pub returns-in_err-number-clause-new : goal.returns-in_err-number-clause-new
returns-in_err-number-clause-new g c = nothing_to_take c.self.inside.places c.self.inside.slots c.self.inside.owners c.args.self.now c.self.invariant c.self.view_is c.args.name.now (sym c.number_of.ensures ∙ c.in_err-number.was)

pub release-requires : goal.release-requires
release-requires g c = ap (λ (x : Numbered g.row.T.Denot). is_some (map.get x.kept c.in_ok-number.number)) c.set_value-value.ensures.new ∙ ap is_some (put-here c.self.inside.slots c.in_ok-number.number _)

pub invariant_of-self : goal.invariant_of-self
invariant_of-self g c = (take_seen c.self.inside.places c.self.inside.slots c.self.inside.owners c.args.self.now c.self.invariant c.self.view_is c.args.name.now c.in_ok-number.number c.release.new.places c.set_value-value.new.self c.release.new.slots (sym c.number_of.ensures ∙ c.in_ok-number.was) c.set_value-value.ensures.new c.release.ensures).sound

pub returns-clause-value : goal.returns-clause-value
returns-clause-value g c = c.set_value-value.ensures.old ∙ take_old c.self.inside.places c.self.inside.slots c.self.inside.owners c.args.self.now c.self.invariant c.self.view_is c.args.name.now c.in_ok-number.number (sym c.number_of.ensures ∙ c.in_ok-number.was)

pub returns-clause-new : goal.returns-clause-new
returns-clause-new g c = (take_seen c.self.inside.places c.self.inside.slots c.self.inside.owners c.args.self.now c.self.invariant c.self.view_is c.args.name.now c.in_ok-number.number c.release.new.places c.set_value-value.new.self c.release.new.slots (sym c.number_of.ensures ∙ c.in_ok-number.was) c.set_value-value.ensures.new c.release.ensures).shown
