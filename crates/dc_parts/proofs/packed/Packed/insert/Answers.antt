use Rattle.std.proofs.Common.{refl, ◌∷◌, ap, ◌∙◌}
use Rattle.std.specs.FinMap as map
use Rattle.dc_parts.specs.Packed.{entries_in}
use Rattle.dc_parts.proofs.FingerLemmas.{no_place}
use Rattle.dc_parts.proofs.PackedLemmas.{put_packed}
use Rattle.dc_parts.proofs.PlaceLemmas.{is_sorted_put, from_sorted_put}
use Rattle.dc_parts.proofs.packed.Packed.insert.Goals as goal

pub span_of-span-requires-clause-finger : goal.span_of-span-requires-clause-finger
span_of-span-requires-clause-finger c = no_place _

pub invariant_of-self-2 : goal.invariant_of-self-2
invariant_of-self-2 c =
    let q = c.new-part.result.mark ∷ c.new-part.result.key.now in
    let span = c.span_of-span.result in
    let starts = rw c.deref.ensures.value at c.span_of-span.ensures.start in
    let ends = rw c.deref.ensures.value at c.span_of-span.ensures.end in
    let is = put_packed q c.self.inside.bytes.items span.start span.end starts ends c.args.value.now _ c.put_between.new.bytes.items refl c.in_ok-put_between.ensures.ok in
    (is.1, is_sorted_put q c.args.value.now (entries_in c.self.inside.bytes.items) _ c.self.invariant.1 is.0)

pub returns-clause-put : goal.returns-clause-put
returns-clause-put c =
    let q = c.new-part.result.mark ∷ c.new-part.result.key.now in
    let span = c.span_of-span.result in
    let starts = rw c.deref.ensures.value at c.span_of-span.ensures.start in
    let ends = rw c.deref.ensures.value at c.span_of-span.ensures.end in
    let is = put_packed q c.self.inside.bytes.items span.start span.end starts ends c.args.value.now _ c.put_between.new.bytes.items refl c.in_ok-put_between.ensures.ok in
    from_sorted_put q c.args.value.now (entries_in c.self.inside.bytes.items) _ c.self.invariant.1 is.0
    ∙ ap (λ m. map.insert m q c.args.value.now) c.self.view_is
    ∙ ap (λ k. map.insert c.args.self.now k c.args.value.now) c.new-part.ensures
