use Rattle.std.proofs.Common.{◌∷◌, ap, ◌∙◌, sym}
use Rattle.std.specs.FinMap as map
use Rattle.dc_parts.specs.Packed.{entries_in}
use Rattle.dc_parts.proofs.PackedLemmas.{cut_packed, without_missing}
use Rattle.dc_parts.proofs.PlaceLemmas.{is_sorted_without, from_sorted_without}
use Rattle.dc_parts.proofs.packed.Packed.remove.Goals as goal

-- the key is there
pub invariant_of-self : goal.invariant_of-self
invariant_of-self c =
    let q = c.new.result.mark ∷ c.new.result.key.now in
    let span = c.span_of-span.result in
    let starts = rw c.deref.ensures.value at c.span_of-span.ensures.start in
    let ends = rw c.deref.ensures.value at c.span_of-span.ensures.end in
    let there = rw c.deref.ensures.value at c.span_of-span.ensures.is_there in
    let is = cut_packed q c.self.inside.bytes.items span.start span.end starts ends c.cut_out.new.bytes.items c.self.invariant.1 c.cut_out.ensures in
    (is.1, is_sorted_without q (entries_in c.self.inside.bytes.items) _ c.self.invariant.1 is.0)

pub returns-then-span : goal.returns-then-span
returns-then-span c =
    let q = c.new.result.mark ∷ c.new.result.key.now in
    let span = c.span_of-span.result in
    let starts = rw c.deref.ensures.value at c.span_of-span.ensures.start in
    let ends = rw c.deref.ensures.value at c.span_of-span.ensures.end in
    let there = rw c.deref.ensures.value at c.span_of-span.ensures.is_there in
    let is = cut_packed q c.self.inside.bytes.items span.start span.end starts ends c.cut_out.new.bytes.items c.self.invariant.1 c.cut_out.ensures in
    from_sorted_without q (entries_in c.self.inside.bytes.items) _ c.self.invariant.1 is.0
    ∙ ap (λ m. map.remove m q) c.self.view_is ∙ ap (map.remove c.args.self.now) c.new.ensures

-- it isn't
pub returns-else-span : goal.returns-else-span
returns-else-span c =
    let q = c.new.result.mark ∷ c.new.result.key.now in
    let there = rw c.deref.ensures.value at c.span_of-span.ensures.is_there in
    sym c.self.view_is
    ∙ from_sorted_without q (entries_in c.self.inside.bytes.items) _ c.self.invariant.1 (without_missing q (entries_in c.self.inside.bytes.items) c.self.invariant.1 (sym there ∙ c.if-span.false))
    ∙ ap (λ m. map.remove m q) c.self.view_is ∙ ap (map.remove c.args.self.now) c.new.ensures
