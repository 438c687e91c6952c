use Rattle.std.proofs.Common.{◌∙◌}
use Rattle.dc_slots.proofs.ThreadLemmas.{threads_gone, gone_view, touched_seen}
use Rattle.dc_slots.proofs.slot_vector.SlotVector.remove.Goals as goal

pub invariant_of-self : goal.invariant_of-self
invariant_of-self g c =
    threads_gone c.self.inside.slots.slots c.try_remove.new.self.slots c.self.inside.first_touched c.self.inside.last_touched c.number.inside.number c.self.invariant
    (record { here = c.try_remove.ensures.updates.changed; others = c.try_remove.ensures.updates.others })
    (touched_seen c.args.self.now c.self.inside.slots.slots c.self.inside.first_touched c.self.inside.last_touched c.number.inside.number c.args.number c.self.invariant c.self.view_is c.number.view_is ∙ c.requires)

pub returns : goal.returns
returns g c =
    gone_view c.args.self.now c.self.inside.slots.slots c.try_remove.new.self.slots c.self.inside.first_touched c.self.inside.last_touched c.number.inside.number c.args.number c.self.invariant c.self.view_is c.number.view_is
    (record { here = c.try_remove.ensures.updates.changed; others = c.try_remove.ensures.updates.others })
    (touched_seen c.args.self.now c.self.inside.slots.slots c.self.inside.first_touched c.self.inside.last_touched c.number.inside.number c.args.number c.self.invariant c.self.view_is c.number.view_is ∙ c.requires)
