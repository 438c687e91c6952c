use Rattle.std.proofs.Common.{sym, ap, ◌∙◌}
use Rattle.std.specs.Prelude.{is_some}
use Rattle.std.specs.FinMap as map
use Rattle.dc_slots.specs.Numbered.{Numbered}
use Rattle.dc_slots.specs.Parts.{table_of}
use Rattle.dc_slots.proofs.TiedLemmas.{put-here}
use Rattle.dc_slots.proofs.OperationLemmas.{left_seen, nothing_to_leave, not_listed, unused}
use Rattle.dc_slots.proofs.slot_table.SlotTable.leave_owner.Goals as goal

pub returns-in_default : goal.returns-in_default
returns-in_default g c = nothing_to_leave c.self.inside.places c.self.inside.slots c.self.inside.owners c.args.self.now c.self.invariant c.self.view_is c.args.name.now c.args.owner.now ((unused c.self.inside.places c.self.inside.slots c.self.inside.owners c.args.self.now c.self.invariant c.self.view_is c.args.name.now (sym c.number_of.ensures ∙ c.in_default.is)).owned c.args.owner.now)

pub release-requires : goal.release-requires
release-requires g c = ap (λ (x : Numbered g.row.T.Denot). is_some (map.get x.kept c.in-Some.number)) c.drop_owner.ensures ∙ ap is_some (put-here c.self.inside.slots c.in-Some.number _)

pub invariant_of-self : goal.invariant_of-self
invariant_of-self g c = (left_seen c.self.inside.places c.self.inside.slots c.self.inside.owners c.args.self.now c.self.invariant c.self.view_is c.args.name.now c.in-Some.number c.release.new.places c.drop_owner.new.self c.release.new.slots c.args.owner.now c.leave.new.self (sym c.number_of.ensures ∙ c.in-Some.is) (sym c.leave.ensures.found ∙ c.if-leave.true) c.leave.ensures.new c.drop_owner.ensures c.release.ensures).sound

pub returns-then-leave : goal.returns-then-leave
returns-then-leave g c = (left_seen c.self.inside.places c.self.inside.slots c.self.inside.owners c.args.self.now c.self.invariant c.self.view_is c.args.name.now c.in-Some.number c.release.new.places c.drop_owner.new.self c.release.new.slots c.args.owner.now c.leave.new.self (sym c.number_of.ensures ∙ c.in-Some.is) (sym c.leave.ensures.found ∙ c.if-leave.true) c.leave.ensures.new c.drop_owner.ensures c.release.ensures).shown

pub returns-else-leave : goal.returns-else-leave
returns-else-leave g c =
    ap (table_of c.self.inside.places c.self.inside.slots) (c.leave.ensures.same c.if-leave.false) ∙ c.self.view_is
    ∙ nothing_to_leave c.self.inside.places c.self.inside.slots c.self.inside.owners c.args.self.now c.self.invariant c.self.view_is c.args.name.now c.args.owner.now (not_listed c.self.inside.places c.self.inside.slots c.self.inside.owners c.args.self.now c.self.invariant c.self.view_is c.args.name.now c.args.owner.now c.in-Some.number (sym c.number_of.ensures ∙ c.in-Some.is) (sym c.leave.ensures.found ∙ c.if-leave.false))
