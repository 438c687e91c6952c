use Rattle.std.proofs.Common.{◌≡◌, Some, None, sym, ap, ◌∙◌}
use Rattle.std.specs.FinMap as map
use Rattle.dc_slots.specs.Chains.{has}
use Rattle.dc_slots.specs.Slots.{list_of}
use Rattle.dc_slots.proofs.LinkLemmas.{list_walks, list_kept, list_is, no_list, place_there, told}
use Rattle.dc_slots.proofs.owner_lists.OwnerLists.has.Goals as goal

pub place_of-requires : goal.place_of-requires
place_of-requires c =
    let is : map.get c.self.inside.lists c.args.owner.now ≡ Some c.in-Some.list.now = ap (map.get c.self.inside.lists) (sym c.bytes.ensures.value) ∙ sym c.in-Some.ensures in
    record { walks = list_walks c.self.inside.links.slots c.self.inside.lists c.self.invariant c.args.owner.now c.in-Some.list.now is; kept = list_kept c.self.inside.links.slots c.self.inside.lists c.self.invariant c.args.owner.now c.in-Some.list.now is }

pub returns-in-Some : goal.returns-in-Some
returns-in-Some c =
    let is : map.get c.self.inside.lists c.args.owner.now ≡ Some c.in-Some.list.now = ap (map.get c.self.inside.lists) (sym c.bytes.ensures.value) ∙ sym c.in-Some.ensures in
    c.is_some.ensures ∙ told c.self.inside.links.slots (Some c.in-Some.list.now.first) c.args.slot c.place_of.result c.place_of.ensures
    (λ before number place. ap (has c.args.slot) (sym (list_is c.self.inside.links.slots c.self.inside.lists c.self.invariant c.args.owner.now c.args.slot c.in-Some.list.now is)) ∙ place_there c.self.inside.links.slots c.self.inside.lists c.self.invariant c.args.owner.now c.args.slot c.in-Some.list.now is before number place)
    ∙ ap (has c.args.slot) (sym (list_is c.self.inside.links.slots c.self.inside.lists c.self.invariant c.args.owner.now c.args.slot c.in-Some.list.now is)) ∙ ap (λ m. has c.args.slot (list_of m c.args.owner.now)) c.self.view_is

pub returns-in-None : goal.returns-in-None
returns-in-None c =
    let none : map.get c.self.inside.lists c.args.owner.now ≡ None = ap (map.get c.self.inside.lists) (sym c.bytes.ensures.value) ∙ sym c.in-None.ensures in
    sym (no_list c.self.inside.links.slots c.self.inside.lists c.self.invariant c.args.owner.now c.args.slot none) ∙ ap (λ m. has c.args.slot (list_of m c.args.owner.now)) c.self.view_is
