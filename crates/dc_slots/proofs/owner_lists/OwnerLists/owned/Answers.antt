use Rattle.std.proofs.Common.{nat_eq, sym, ap, ◌∙◌, subst}
use Rattle.std.specs.List.{IsDistinct}
use Rattle.dc_slots.specs.Slots.{list_of}
use Rattle.dc_slots.specs.Links.{slots_from}
use Rattle.dc_slots.proofs.LinkLemmas.{slots_whole, list_shown}
use Rattle.dc_slots.proofs.owner_lists.OwnerLists.owned.Goals as goal

pub returns-clause-slots : goal.returns-clause-slots
returns-clause-slots c =
    ap (slots_from c.self.inside.links.slots) c.first_of_list.ensures ∙ slots_whole c.self.inside.links.slots c.self.inside.lists c.self.invariant c.args.owner.now ∙ ap (λ m. list_of m c.args.owner.now) c.self.view_is

pub returns-clause-distinct : goal.returns-clause-distinct
returns-clause-distinct c =
    subst (IsDistinct nat_eq) (sym (list_shown c.self.inside.links.slots c.self.inside.lists c.self.invariant c.args.owner.now) ∙ ap (λ m. list_of m c.args.owner.now) c.self.view_is) (c.self.invariant.slots c.args.owner.now)
