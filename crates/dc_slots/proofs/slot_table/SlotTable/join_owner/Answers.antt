use Rattle.std.proofs.Common.{sym, ap, ◌∙◌}
use Rattle.std.specs.Prelude.{is_some}
use Rattle.std.specs.FinMap as map
use Rattle.dc_slots.specs.Numbered.{Numbered}
use Rattle.dc_slots.proofs.PlaceLemmas.{has_place}
use Rattle.dc_slots.proofs.OperationLemmas.{joined_seen_new, joined_seen_old, join_failed}
use Rattle.dc_slots.proofs.slot_table.SlotTable.join_owner.Goals as goal

pub returns-then-has-clause-ok : goal.returns-then-has-clause-ok
returns-then-has-clause-ok g c = (joined_seen_old c.self.inside.places c.self.inside.slots c.self.inside.owners c.args.self.now c.self.invariant c.self.view_is c.args.name.now c.in_ok-number.number c.place_for.new.places c.place_for.new.slots c.args.owner.now c.in_ok-number.ensures.ok (sym c.has.ensures ∙ c.if-has.true)).shown

pub join-requires-clause-kept : goal.join-requires-clause-kept
join-requires-clause-kept g c = (has_place c.self.inside.places c.place_for.new.places c.self.inside.slots c.place_for.new.slots c.self.inside.owners c.args.self.now c.self.invariant c.self.view_is c.args.name.now c.in_ok-number.number c.in_ok-number.ensures.ok).kept

pub release-requires : goal.release-requires
release-requires g c = ap (λ (x : Numbered g.row.T.Denot). is_some (map.get x.kept c.in_ok-number.number)) c.in-Err.ensures.err.0 ∙ (has_place c.self.inside.places c.place_for.new.places c.self.inside.slots c.place_for.new.slots c.self.inside.owners c.args.self.now c.self.invariant c.self.view_is c.args.name.now c.in_ok-number.number c.in_ok-number.ensures.ok).kept

pub invariant_of-self-in-Err : goal.invariant_of-self-in-Err
invariant_of-self-in-Err g c = (join_failed c.self.inside.places c.self.inside.slots c.self.inside.owners c.args.self.now c.self.invariant c.self.view_is c.args.name.now c.in_ok-number.number c.place_for.new.places c.release.new.places c.place_for.new.slots c.join.new.slots c.release.new.slots c.join.new.owners c.in_ok-number.ensures.ok c.in-Err.ensures.err.0 c.in-Err.ensures.err.1 c.release.ensures).sound

pub returns-in-Err-clause-err : goal.returns-in-Err-clause-err
returns-in-Err-clause-err g c = (join_failed c.self.inside.places c.self.inside.slots c.self.inside.owners c.args.self.now c.self.invariant c.self.view_is c.args.name.now c.in_ok-number.number c.place_for.new.places c.release.new.places c.place_for.new.slots c.join.new.slots c.release.new.slots c.join.new.owners c.in_ok-number.ensures.ok c.in-Err.ensures.err.0 c.in-Err.ensures.err.1 c.release.ensures).shown

pub invariant_of-self-in_default : goal.invariant_of-self-in_default
invariant_of-self-in_default g c = (joined_seen_new c.self.inside.places c.self.inside.slots c.self.inside.owners c.args.self.now c.self.invariant c.self.view_is c.args.name.now c.in_ok-number.number c.place_for.new.places c.place_for.new.slots c.join.new.slots c.args.owner.now c.join.new.owners c.in_ok-number.ensures.ok (sym c.has.ensures ∙ c.if-has.false) c.in_default.ensures.slots c.in_default.ensures.owners).sound

pub returns-clause-ok : goal.returns-clause-ok
returns-clause-ok g c = (joined_seen_new c.self.inside.places c.self.inside.slots c.self.inside.owners c.args.self.now c.self.invariant c.self.view_is c.args.name.now c.in_ok-number.number c.place_for.new.places c.place_for.new.slots c.join.new.slots c.args.owner.now c.join.new.owners c.in_ok-number.ensures.ok (sym c.has.ensures ∙ c.if-has.false) c.in_default.ensures.slots c.in_default.ensures.owners).shown
