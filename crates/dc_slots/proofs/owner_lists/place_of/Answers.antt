use Rattle.std.proofs.Common.{◌≡◌, false, Some, sym, ap, ◌∙◌, nat_eq}
use Rattle.std.specs.Prelude.{is_some}
use Rattle.std.proofs.lemmas.Bool.{eqb-true}
use Rattle.dc_slots.specs.Links.{link_at, next_of, slot_of, slot_in}
use Rattle.dc_slots.proofs.ChainLemmas.{numbers_equiv}
use Rattle.dc_slots.proofs.LinkLemmas.{search_begins, search_kept, search_found, search_goes, search_shrinks, search_ends}
use Rattle.dc_slots.proofs.owner_lists.place_of.Goals as goal

pub index-link-requires : goal.index-link-requires
index-link-requires c = ap (λ n. is_some (link_at c.args.links.now.slots n)) c.number.view_is ∙ search_kept c.args.links.now.slots (Some c.args.first) c.args.slot c.loop-at.before c.loop-at.at c.in-Some.number c.loop-at.invariant c.in-Some.is c.requires.kept

pub loop-at-init : goal.loop-at-init
loop-at-init c = search_begins c.args.links.now.slots (Some c.args.first) c.args.slot c.requires.walks

pub loop-at-preserved : goal.loop-at-preserved
loop-at-preserved c =
    let read : link_at c.args.links.now.slots c.in-Some.number ≡ Some c.index-link.result.now = ap (link_at c.args.links.now.slots) (sym c.number.view_is) ∙ c.index-link.ensures in
    let other : nat_eq c.args.slot (slot_in c.args.links.now.slots c.in-Some.number) ≡ false
    = ap (λ o. nat_eq c.args.slot (slot_of o)) read ∙ numbers_equiv.symm c.args.slot c.index-link.result.now.slot ∙ sym c.is.ensures ∙ c.if-is.false in
    search_goes c.args.links.now.slots (Some c.args.first) c.args.slot c.loop-at.before c.loop-at.at c.index-link.result.now.next c.in-Some.number c.loop-at.invariant c.in-Some.is other (ap next_of (sym read))

pub loop-at-smaller : goal.loop-at-smaller
loop-at-smaller c =
    let read : link_at c.args.links.now.slots c.in-Some.number ≡ Some c.index-link.result.now = ap (link_at c.args.links.now.slots) (sym c.number.view_is) ∙ c.index-link.ensures in
    let other : nat_eq c.args.slot (slot_in c.args.links.now.slots c.in-Some.number) ≡ false
    = ap (λ o. nat_eq c.args.slot (slot_of o)) read ∙ numbers_equiv.symm c.args.slot c.index-link.result.now.slot ∙ sym c.is.ensures ∙ c.if-is.false in
    search_shrinks c.args.links.now.slots (Some c.args.first) c.args.slot c.loop-at.before c.loop-at.at c.index-link.result.now.next c.in-Some.number c.loop-at.invariant c.in-Some.is other (ap next_of (sym read))

pub returns-then-is : goal.returns-then-is
returns-then-is c =
    let read : link_at c.args.links.now.slots c.in-Some.number ≡ Some c.index-link.result.now = ap (link_at c.args.links.now.slots) (sym c.number.view_is) ∙ c.index-link.ensures in
    search_found c.args.links.now.slots (Some c.args.first) c.args.slot c.loop-at.before c.loop-at.at c.in-Some.number c.loop-at.invariant c.in-Some.is (ap slot_of read ∙ eqb-true _ _ (sym c.is.ensures ∙ c.if-is.true))

pub returns : goal.returns
returns c = search_ends c.args.links.now.slots (Some c.args.first) c.args.slot c.loop-at.before c.loop-at.at c.loop-at.invariant c.in_default.is
