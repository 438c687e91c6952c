use Rattle.std.proofs.Common.{nat_eq, sym, ap, ◌∙◌, subst}
use Rattle.std.specs.List.{IsDistinct}
use Rattle.dc_slots.proofs.ThreadLemmas.{walked_whole, names_whole, touched_is}
use Rattle.dc_slots.proofs.slot_vector.SlotVector.touched.Goals as goal

pub invariant_of-result : goal.invariant_of-result
invariant_of-result g c = walked_whole c.self.inside.slots.slots c.self.inside.first_touched c.self.inside.last_touched c.self.invariant

pub returns-clause-names : goal.returns-clause-names
returns-clause-names g c = names_whole c.args.self.now c.self.inside.slots.slots c.self.inside.first_touched c.self.view_is

pub returns-clause-distinct : goal.returns-clause-distinct
returns-clause-distinct g c =
    subst (IsDistinct nat_eq) (sym (touched_is c.self.inside.slots.slots c.self.inside.first_touched c.self.inside.last_touched c.self.invariant) ∙ ap (λ v. v.touched) c.self.view_is) c.self.invariant.distinct
