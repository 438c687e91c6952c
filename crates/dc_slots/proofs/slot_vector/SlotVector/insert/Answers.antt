use Rattle.std.proofs.Common.{refl, sym, ap, ◌∙◌}
use Rattle.dc_slots.proofs.ThreadLemmas.{vacant_untouched, touched_seen, threads_put, put_view, opened, seen}
use Rattle.dc_slots.proofs.slot_vector.SlotVector.insert.Goals as goal

pub invariant_of-self-2 : goal.invariant_of-self-2
invariant_of-self-2 g c =
    threads_put c.self.inside.slots.slots c.insert.new.self.slots c.self.inside.first_touched c.self.inside.last_touched c.in_ok-number.number _ c.self.invariant
    (record { here = c.in_ok-number.ensures.updates.changed; others = c.in_ok-number.ensures.updates.others }) c.in_ok-number.ensures.was_vacant refl

pub returns-clause-new : goal.returns-clause-new
returns-clause-new g c = opened c.args.self.now c.self.inside.slots.slots c.self.inside.first_touched c.in_ok-number.number c.in_ok-number.number c.self.view_is refl ∙ ap seen c.in_ok-number.ensures.was_vacant

pub returns-clause-ok : goal.returns-clause-ok
returns-clause-ok g c =
    put_view c.args.self.now c.self.inside.slots.slots c.insert.new.self.slots c.self.inside.first_touched c.self.inside.last_touched c.in_ok-number.number _ c.self.view_is c.self.invariant
    (record { here = c.in_ok-number.ensures.updates.changed; others = c.in_ok-number.ensures.updates.others }) c.in_ok-number.ensures.was_vacant refl

pub returns-clause-untouched : goal.returns-clause-untouched
returns-clause-untouched g c =
    sym (touched_seen c.args.self.now c.self.inside.slots.slots c.self.inside.first_touched c.self.inside.last_touched c.in_ok-number.number c.in_ok-number.number c.self.invariant c.self.view_is refl)
    ∙ vacant_untouched c.self.inside.slots.slots c.self.inside.first_touched c.self.inside.last_touched c.in_ok-number.number c.self.invariant c.in_ok-number.ensures.was_vacant
