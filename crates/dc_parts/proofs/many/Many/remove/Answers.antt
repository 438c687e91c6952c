use Rattle.std.proofs.Common.{◌∷◌, sym, ap, ◌∙◌}
use Rattle.std.specs.FinMap as map
use Rattle.dc_parts.proofs.PlaceLemmas.{remove_at, without_none, find_gap, is_sorted_without, from_sorted_without}
use Rattle.dc_parts.proofs.many.Many.remove.Goals as goal

pub invariant_of-self : goal.invariant_of-self
invariant_of-self c =
    let q = c.args.mark ∷ c.args.key.now in
    let at = remove_at q c.self.inside.pairs.items c.in-Ok.place c.self.invariant (rw c.deref.ensures.value at c.in-Ok.ensures) in
    is_sorted_without q c.self.inside.pairs.items _ c.self.invariant (c.remove.ensures.items ∙ at)

pub returns-in-Ok : goal.returns-in-Ok
returns-in-Ok c =
    let q = c.args.mark ∷ c.args.key.now in
    let at = remove_at q c.self.inside.pairs.items c.in-Ok.place c.self.invariant (rw c.deref.ensures.value at c.in-Ok.ensures) in
    from_sorted_without q c.self.inside.pairs.items _ c.self.invariant (c.remove.ensures.items ∙ at)
    ∙ ap (λ m. map.remove m q) c.self.view_is

pub returns-in_default : goal.returns-in_default
returns-in_default c =
    let q = c.args.mark ∷ c.args.key.now in
    let missing = find_gap q c.self.inside.pairs.items c.in_default.field-0 (rw c.deref.ensures.value at c.in_default.ensures) in
    sym c.self.view_is
    ∙ from_sorted_without q c.self.inside.pairs.items _ c.self.invariant (sym (without_none q c.self.inside.pairs.items missing))
    ∙ ap (λ m. map.remove m q) c.self.view_is
