use Rattle.std.proofs.Common.{◌∷◌, ◌++◌, [], sym, ap, ◌∙◌}
use Rattle.std.specs.FinMap as map
use Rattle.dc_slots.specs.Chains.{has}
use Rattle.dc_slots.specs.Slots.{list_of}
use Rattle.dc_slots.proofs.LinkLemmas.{are_joined, joined_shown, last_is_kept, list_shown}
use Rattle.dc_slots.proofs.owner_lists.OwnerLists.join.Goals as goal

pub join_list-requires : goal.join_list-requires
join_list-requires c = λ l is. last_is_kept c.self.inside.links.slots c.self.inside.lists c.self.invariant c.args.owner.now l is

pub invariant_of-self-2 : goal.invariant_of-self-2
invariant_of-self-2 c =
    are_joined c.self.inside.links.slots c.join_list.new.links.slots c.self.inside.lists c.join_list.new.lists c.args.owner.now c.args.slot c.self.invariant c.in_ok-join_list.ensures.ok
    (ap (has c.args.slot) (sym (list_shown c.self.inside.links.slots c.self.inside.lists c.self.invariant c.args.owner.now) ∙ ap (λ m. list_of m c.args.owner.now) c.self.view_is) ∙ c.requires)

pub returns-clause-ok : goal.returns-clause-ok
returns-clause-ok c =
    joined_shown c.self.inside.links.slots c.join_list.new.links.slots c.self.inside.lists c.join_list.new.lists c.args.owner.now c.args.slot c.self.invariant c.in_ok-join_list.ensures.ok
    (ap (has c.args.slot) (sym (list_shown c.self.inside.links.slots c.self.inside.lists c.self.invariant c.args.owner.now) ∙ ap (λ m. list_of m c.args.owner.now) c.self.view_is) ∙ c.requires)
    ∙ ap (λ m. map.insert m c.args.owner.now (list_of m c.args.owner.now ++ c.args.slot ∷ [])) c.self.view_is
