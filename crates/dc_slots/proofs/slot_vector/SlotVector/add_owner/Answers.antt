use Rattle.std.proofs.Common.{◌+◌, refl, sym, ap, ◌∙◌}
use Rattle.dc_slots.specs.Numbered.{name_in, value_in}
use Rattle.dc_slots.proofs.ThreadLemmas.{is_opened, read, rewritten, rewritten_view}
use Rattle.dc_slots.proofs.slot_vector.SlotVector.add_owner.Goals as goal

pub index_mut-requires : goal.index_mut-requires
index_mut-requires g c = is_opened c.args.self.now c.self.inside.slots.slots c.self.inside.first_touched c.number.inside.number c.args.number c.self.view_is c.number.view_is c.requires

pub invariant_of-self : goal.invariant_of-self
invariant_of-self g c = rewritten c.self.inside.slots.slots c.self.inside.first_touched c.self.inside.last_touched c.number.inside.number c.index_mut.result.now _ c.self.invariant c.index_mut.ensures.value refl

pub returns-clause-ok : goal.returns-clause-ok
returns-clause-ok g c =
    let was = read c.args.self.now c.self.inside.slots.slots c.self.inside.first_touched c.number.inside.number c.args.number c.index_mut.result.now c.self.view_is c.number.view_is c.index_mut.ensures.value in
    rewritten_view c.args.self.now c.self.inside.slots.slots c.self.inside.first_touched c.self.inside.last_touched c.number.inside.number c.args.number c.index_mut.result.now _ _ c.self.view_is c.number.view_is c.self.invariant c.index_mut.ensures.value refl
    (λ i. record { name = name_in (sym was i); value = value_in (sym was i); owners = (c.in-Some.ensures.1 ∙ ap (λ n. n + 1) c.owners.ensures) i })
