use Rattle.std.proofs.Common.{◌≡◌, length, suc, arith, sym, ap, ◌∙◌}
use Rattle.std.specs.Prelude.{is_some}
use Rattle.dc_slots.specs.Threads.{slot_at, names_from}
use Rattle.dc_slots.proofs.ThreadLemmas.{walk_kept, walk_steps}
use Rattle.dc_slots.proofs.slot_vector.TouchedNamesIterator.next.Goals as goal

pub index-slot-requires : goal.index-slot-requires
index-slot-requires g c = ap (λ n. is_some (slot_at c.self.inside.slots.now.slots n)) c.number.view_is ∙ walk_kept c.self.inside.slots.now.slots c.self.inside.next c.in_ok-number.number c.self.invariant c.in_ok-number.was

pub invariant_of-self : goal.invariant_of-self
invariant_of-self g c = (walk_steps c.self.inside.slots.now.slots c.self.inside.next c.in_ok-number.number c.index-slot.result.now c.self.invariant c.in_ok-number.was (ap (slot_at c.self.inside.slots.now.slots) (sym c.number.view_is) ∙ c.index-slot.ensures)).walked

pub returns-clause-steps : goal.returns-clause-steps
returns-clause-steps g c = sym c.self.view_is ∙ (walk_steps c.self.inside.slots.now.slots c.self.inside.next c.in_ok-number.number c.index-slot.result.now c.self.invariant c.in_ok-number.was (ap (slot_at c.self.inside.slots.now.slots) (sym c.number.view_is) ∙ c.index-slot.ensures)).named

pub returns-clause-goes : goal.returns-clause-goes
returns-clause-goes g c =
    let longer : length c.args.self.now ≡ suc (length (names_from c.self.inside.slots.now.slots c.index-slot.result.now.next_touched)) = ap length (sym c.self.view_is ∙ (walk_steps c.self.inside.slots.now.slots c.self.inside.next c.in_ok-number.number c.index-slot.result.now c.self.invariant c.in_ok-number.was (ap (slot_at c.self.inside.slots.now.slots) (sym c.number.view_is) ∙ c.index-slot.ensures)).named) in
    record { on = λ _. (tt, tt, omega arith); keeps = tt; rests = λ _. tt }
