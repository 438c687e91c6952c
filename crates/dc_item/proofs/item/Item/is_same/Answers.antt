use Rattle.std.proofs.Common.{map as each, ap, ◌∙◌}
use Rattle.std.specs.Str.{bytes_eq}
use Rattle.std.specs.Cmp.Lexicographic.{pointwise}
use Rattle.dc_item.specs.After.{entry_eq, parts_eq}
use Rattle.dc_item.proofs.PartLemmas.{same_parts}
use Rattle.dc_item.proofs.item.Item.is_same.Goals as goal

pub returns : goal.returns
returns c =
    let left = ap (each (λ e. (e.0.now, e.1.now))) c.deref.ensures.value ∙ c.in_ok-entries.ensures in
    let right = ap (each (λ e. (e.0.now, e.1.now))) c.deref-2.ensures.value ∙ c.in_ok-others.ensures in
    c.are_same-is.ensures ∙ (λ i. pointwise (entry_eq bytes_eq) (left i) (right i))
    ∙ same_parts c.self.inside.parts c.other.inside.parts c.self.invariant c.other.invariant ∙ (λ i. parts_eq (c.self.view_is i) (c.other.view_is i))
