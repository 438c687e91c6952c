use Rattle.std.proofs.Common.{sym, subst}
use Rattle.dc_item.specs.Sections.{IsParts}
use Rattle.dc_item.proofs.PartLemmas.{begins, none_in}
use Rattle.dc_item.proofs.item_builder.ItemBuilder.take.Goals as goal

pub invariant_of-self : goal.invariant_of-self
invariant_of-self c = subst IsParts (sym c.in_err-parts.ensures.err) c.self.invariant

pub invariant_of-self-2 : goal.invariant_of-self-2
invariant_of-self-2 c = begins c.take.new.self c.in_ok-parts.ensures.left

pub returns-clause-left : goal.returns-clause-left
returns-clause-left c = none_in c.take.new.self c.in_ok-parts.ensures.left
