use Rattle.std.proofs.Common.{sym, ap, ◌∙◌}
use Rattle.std.specs.Prelude.{is_some}
use Rattle.dc_slots.specs.Links.{link_at}
use Rattle.dc_slots.proofs.LinkLemmas.{walk_kept, walk_steps}
use Rattle.dc_slots.proofs.owner_lists.OwnedSlots.step.Goals as goal

pub index-link-requires : goal.index-link-requires
index-link-requires c = ap (λ n. is_some (link_at c.self.inside.links.now.slots n)) c.number.view_is ∙ walk_kept c.self.inside.links.now.slots c.self.inside.next c.in_ok-number.number c.self.invariant c.in_ok-number.was

pub invariant_of-self : goal.invariant_of-self
invariant_of-self c = (walk_steps c.self.inside.links.now.slots c.self.inside.next c.in_ok-number.number c.index-link.result.now c.self.invariant c.in_ok-number.was (ap (link_at c.self.inside.links.now.slots) (sym c.number.view_is) ∙ c.index-link.ensures)).walked

pub returns : goal.returns
returns c = sym c.self.view_is ∙ (walk_steps c.self.inside.links.now.slots c.self.inside.next c.in_ok-number.number c.index-link.result.now c.self.invariant c.in_ok-number.was (ap (link_at c.self.inside.links.now.slots) (sym c.number.view_is) ∙ c.index-link.ensures)).named
