use Rattle.std.proofs.Common.{◌≡◌, Some, None, sym, ap, ◌∙◌, nat_eq}
use Rattle.std.specs.FinMap as map
use Rattle.dc_slots.specs.Chains.{has}
use Rattle.dc_slots.specs.Slots.{list_of, with_at, without, if_any}
use Rattle.dc_slots.specs.Links.{next_in, list_between, first_after, last_after}
use Rattle.dc_slots.proofs.LinkLemmas.{list_walks, list_kept, list_is, no_list, nothing_left, place_there, place_kept, before_kept, place_in_chain, are_parted, parted_shown}
use Rattle.dc_slots.proofs.owner_lists.OwnerLists.leave.Goals as goal

pub returns-in_default-clause-found : goal.returns-in_default-clause-found
returns-in_default-clause-found c =
    let none : map.get c.self.inside.lists c.args.owner.now ≡ None = ap (map.get c.self.inside.lists) (sym c.bytes.ensures.value) ∙ sym c.in_default.ensures in
    sym (no_list c.self.inside.links.slots c.self.inside.lists c.self.invariant c.args.owner.now c.args.slot none) ∙ ap (λ m. has c.args.slot (list_of m c.args.owner.now)) c.self.view_is

pub returns-in_default-clause-new : goal.returns-in_default-clause-new
returns-in_default-clause-new c =
    let none : map.get c.self.inside.lists c.args.owner.now ≡ None = ap (map.get c.self.inside.lists) (sym c.bytes.ensures.value) ∙ sym c.in_default.ensures in
    sym c.self.view_is ∙ nothing_left c.self.inside.links.slots c.self.inside.lists c.self.invariant c.args.owner.now c.args.slot (no_list c.self.inside.links.slots c.self.inside.lists c.self.invariant c.args.owner.now c.args.slot none) ∙ (λ i. with_at (c.self.view_is i) c.args.owner.now (if_any (without nat_eq (list_of (c.self.view_is i) c.args.owner.now) c.args.slot)))

pub place_of-requires-clause-walks : goal.place_of-requires-clause-walks
place_of-requires-clause-walks c =
    let is : map.get c.self.inside.lists c.args.owner.now ≡ Some c.in-Some.list.now = ap (map.get c.self.inside.lists) (sym c.bytes.ensures.value) ∙ sym c.in-Some.ensures in
    list_walks c.self.inside.links.slots c.self.inside.lists c.self.invariant c.args.owner.now c.in-Some.list.now is

pub place_of-requires-clause-kept : goal.place_of-requires-clause-kept
place_of-requires-clause-kept c =
    let is : map.get c.self.inside.lists c.args.owner.now ≡ Some c.in-Some.list.now = ap (map.get c.self.inside.lists) (sym c.bytes.ensures.value) ∙ sym c.in-Some.ensures in
    list_kept c.self.inside.links.slots c.self.inside.lists c.self.invariant c.args.owner.now c.in-Some.list.now is

pub returns-in_default-place_of-clause-found : goal.returns-in_default-place_of-clause-found
returns-in_default-place_of-clause-found c =
    let is : map.get c.self.inside.lists c.args.owner.now ≡ Some c.in-Some.list.now = ap (map.get c.self.inside.lists) (sym c.bytes.ensures.value) ∙ sym c.in-Some.ensures in
    sym (ap (has c.args.slot) (list_is c.self.inside.links.slots c.self.inside.lists c.self.invariant c.args.owner.now c.args.slot c.in-Some.list.now is) ∙ c.in_default-place_of.ensures) ∙ ap (λ m. has c.args.slot (list_of m c.args.owner.now)) c.self.view_is

pub returns-in_default-place_of-clause-new : goal.returns-in_default-place_of-clause-new
returns-in_default-place_of-clause-new c =
    let is : map.get c.self.inside.lists c.args.owner.now ≡ Some c.in-Some.list.now = ap (map.get c.self.inside.lists) (sym c.bytes.ensures.value) ∙ sym c.in-Some.ensures in
    sym c.self.view_is ∙ nothing_left c.self.inside.links.slots c.self.inside.lists c.self.invariant c.args.owner.now c.args.slot (ap (has c.args.slot) (list_is c.self.inside.links.slots c.self.inside.lists c.self.invariant c.args.owner.now c.args.slot c.in-Some.list.now is) ∙ c.in_default-place_of.ensures) ∙ (λ i. with_at (c.self.view_is i) c.args.owner.now (if_any (without nat_eq (list_of (c.self.view_is i) c.args.owner.now) c.args.slot)))

pub unlink-next-requires-clause-kept : goal.unlink-next-requires-clause-kept
unlink-next-requires-clause-kept c =
    let is : map.get c.self.inside.lists c.args.owner.now ≡ Some c.in-Some.list.now = ap (map.get c.self.inside.lists) (sym c.bytes.ensures.value) ∙ sym c.in-Some.ensures in
    place_kept c.self.inside.links.slots c.self.inside.lists c.self.invariant c.args.owner.now c.args.slot c.in-Some.list.now is c.in-Some-place_of.place.before c.in-Some-place_of.place.number c.in-Some-place_of.ensures

pub unlink-next-requires-clause-before : goal.unlink-next-requires-clause-before
unlink-next-requires-clause-before c =
    let is : map.get c.self.inside.lists c.args.owner.now ≡ Some c.in-Some.list.now = ap (map.get c.self.inside.lists) (sym c.bytes.ensures.value) ∙ sym c.in-Some.ensures in
    before_kept c.self.inside.links.slots c.self.inside.lists c.self.invariant c.args.owner.now c.args.slot c.in-Some.list.now is c.in-Some-place_of.place.before c.in-Some-place_of.place.number c.in-Some-place_of.ensures

pub invariant_of-self : goal.invariant_of-self
invariant_of-self c =
    let is : map.get c.self.inside.lists c.args.owner.now ≡ Some c.in-Some.list.now = ap (map.get c.self.inside.lists) (sym c.bytes.ensures.value) ∙ sym c.in-Some.ensures in
    let list : c.set_list.new.lists ≡ with_at c.self.inside.lists c.args.owner.now (list_between (first_after c.in-Some-place_of.place.before (next_in c.self.inside.links.slots c.in-Some-place_of.place.number) c.in-Some.list.now.first) (last_after c.in-Some-place_of.place.before (next_in c.self.inside.links.slots c.in-Some-place_of.place.number) c.in-Some.list.now.last))
    = c.set_list.ensures ∙ (λ i. with_at c.self.inside.lists c.args.owner.now (list_between ((c.first_after-first.ensures ∙ ap (λ o. first_after c.in-Some-place_of.place.before o c.in-Some.list.now.first) c.unlink-next.ensures.next) i)
    ((c.last_after-last.ensures ∙ ap (λ o. last_after c.in-Some-place_of.place.before o c.in-Some.list.now.last) c.unlink-next.ensures.next) i))) in
    are_parted c.self.inside.links.slots c.unlink-next.new.links.slots c.self.inside.lists c.set_list.new.lists c.args.owner.now c.args.slot c.in-Some.list.now c.in-Some-place_of.place.before c.in-Some-place_of.place.number c.self.invariant is (place_in_chain c.self.inside.links.slots c.self.inside.lists c.self.invariant c.args.owner.now c.args.slot c.in-Some.list.now is c.in-Some-place_of.place.before c.in-Some-place_of.place.number c.in-Some-place_of.ensures) c.unlink-next.ensures.unlinked list

pub returns-clause-found : goal.returns-clause-found
returns-clause-found c =
    let is : map.get c.self.inside.lists c.args.owner.now ≡ Some c.in-Some.list.now = ap (map.get c.self.inside.lists) (sym c.bytes.ensures.value) ∙ sym c.in-Some.ensures in
    sym (place_there c.self.inside.links.slots c.self.inside.lists c.self.invariant c.args.owner.now c.args.slot c.in-Some.list.now is c.in-Some-place_of.place.before c.in-Some-place_of.place.number c.in-Some-place_of.ensures) ∙ ap (λ m. has c.args.slot (list_of m c.args.owner.now)) c.self.view_is

pub returns-clause-new : goal.returns-clause-new
returns-clause-new c =
    let is : map.get c.self.inside.lists c.args.owner.now ≡ Some c.in-Some.list.now = ap (map.get c.self.inside.lists) (sym c.bytes.ensures.value) ∙ sym c.in-Some.ensures in
    let list : c.set_list.new.lists ≡ with_at c.self.inside.lists c.args.owner.now (list_between (first_after c.in-Some-place_of.place.before (next_in c.self.inside.links.slots c.in-Some-place_of.place.number) c.in-Some.list.now.first) (last_after c.in-Some-place_of.place.before (next_in c.self.inside.links.slots c.in-Some-place_of.place.number) c.in-Some.list.now.last))
    = c.set_list.ensures ∙ (λ i. with_at c.self.inside.lists c.args.owner.now (list_between ((c.first_after-first.ensures ∙ ap (λ o. first_after c.in-Some-place_of.place.before o c.in-Some.list.now.first) c.unlink-next.ensures.next) i)
    ((c.last_after-last.ensures ∙ ap (λ o. last_after c.in-Some-place_of.place.before o c.in-Some.list.now.last) c.unlink-next.ensures.next) i))) in
    parted_shown c.self.inside.links.slots c.unlink-next.new.links.slots c.self.inside.lists c.set_list.new.lists c.args.owner.now c.args.slot c.in-Some.list.now c.in-Some-place_of.place.before c.in-Some-place_of.place.number c.self.invariant is (place_in_chain c.self.inside.links.slots c.self.inside.lists c.self.invariant c.args.owner.now c.args.slot c.in-Some.list.now is c.in-Some-place_of.place.before c.in-Some-place_of.place.number c.in-Some-place_of.ensures) c.unlink-next.ensures.unlinked list ∙ (λ i. with_at (c.self.view_is i) c.args.owner.now (if_any (without nat_eq (list_of (c.self.view_is i) c.args.owner.now) c.args.slot)))
