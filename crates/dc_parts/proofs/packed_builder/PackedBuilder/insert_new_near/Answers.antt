use Rattle.std.proofs.Common.{refl, ◌∷◌, not, false, ap, ◌∙◌, sym, arith}
use Rattle.std.specs.FinMap as map
use Rattle.dc_parts.specs.Packed.{entries_in}
use Rattle.dc_parts.proofs.FingerLemmas.{put_place}
use Rattle.dc_parts.proofs.PackedLemmas.{put_packed, count_fits, put_count, there-place}
use Rattle.dc_parts.proofs.PlaceLemmas.{is_sorted_put, from_sorted_put}
use Rattle.dc_parts.proofs.packed_builder.PackedBuilder.insert_new_near.Goals as goal

-- the key is there
pub returns-then-span-clause-new : goal.returns-then-span-clause-new
returns-then-span-clause-new c =
    let q = c.args.key.mark ∷ c.args.key.key.now in
    let there = rw c.deref.ensures.value at c.span_of-span.ensures.is_there in
    ap not (sym c.if-span.true ∙ there ∙ there-place q (entries_in c.self.inside.bytes.items) c.args.self.now c.self.invariant.1 c.self.view_is)

-- it isn't
pub count_with-self-inside-requires : goal.count_with-self-inside-requires
count_with-self-inside-requires c =
    omega (arith, count_fits c.self.inside.bytes.items c.self.invariant.0, c.self.invariant.2)

pub invariant_of-self-2 : goal.invariant_of-self-2
invariant_of-self-2 c =
    let q = c.args.key.mark ∷ c.args.key.key.now in
    let span = c.span_of-span.result in
    let starts = rw c.deref.ensures.value at c.span_of-span.ensures.start in
    let ends = rw c.deref.ensures.value at c.span_of-span.ensures.end in
    let there = rw c.deref.ensures.value at c.span_of-span.ensures.is_there in
    let is = put_packed q c.self.inside.bytes.items span.start span.end starts ends c.args.value.now _ c.put_between.new.bytes.items refl c.in_ok-put_between.ensures.ok in
    let many = put_count q (entries_in c.self.inside.bytes.items) _ false (sym c.if-span.false ∙ there) c.args.value.now c.self.inside.count c.count_with-self-inside.result is.0 c.self.invariant.2 c.count_with-self-inside.ensures in
    let finger = put_place q c.args.value.now c.self.inside.bytes.items span.start (entries_in c.self.inside.bytes.items) _ starts (omega arith) is.0 in
    (is.1, is_sorted_put q c.args.value.now (entries_in c.self.inside.bytes.items) _ c.self.invariant.1 is.0, many, finger)

pub returns-clause-new : goal.returns-clause-new
returns-clause-new c =
    let q = c.args.key.mark ∷ c.args.key.key.now in
    let there = rw c.deref.ensures.value at c.span_of-span.ensures.is_there in
    ap not (sym c.if-span.false ∙ there ∙ there-place q (entries_in c.self.inside.bytes.items) c.args.self.now c.self.invariant.1 c.self.view_is)

pub returns-clause-put : goal.returns-clause-put
returns-clause-put c =
    let q = c.args.key.mark ∷ c.args.key.key.now in
    let span = c.span_of-span.result in
    let starts = rw c.deref.ensures.value at c.span_of-span.ensures.start in
    let ends = rw c.deref.ensures.value at c.span_of-span.ensures.end in
    let there = rw c.deref.ensures.value at c.span_of-span.ensures.is_there in
    let is = put_packed q c.self.inside.bytes.items span.start span.end starts ends c.args.value.now _ c.put_between.new.bytes.items refl c.in_ok-put_between.ensures.ok in
    from_sorted_put q c.args.value.now (entries_in c.self.inside.bytes.items) _ c.self.invariant.1 is.0
    ∙ ap (λ m. map.insert m q c.args.value.now) c.self.view_is
