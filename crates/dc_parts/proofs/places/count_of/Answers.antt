use Rattle.std.proofs.Common.{List, ℕ, length, ◌<◌, ap, ◌∙◌, sym, subst, arith}
use Rattle.dc_parts.specs.Packed.{HasText, IsPacked, behind_text, entries_in}
use Rattle.dc_parts.proofs.PackedLemmas.{some_left, no_more, has_key, has_value, later_packed, shorter, opened, count_fits, none_in}
use Rattle.dc_parts.proofs.places.count_of.Goals as goal

pub split_key-requires : goal.split_key-requires
split_key-requires c = has_key c.loop-rest.rest.now (some_left _ _ c.is_empty.ensures c.loop-rest-test.true) c.loop-rest.invariant.is_packed

pub split_text-requires : goal.split_text-requires
split_text-requires c = subst HasText (sym c.split_key.ensures.rest) (has_value c.loop-rest.rest.now (some_left _ _ c.is_empty.ensures c.loop-rest-test.true) c.loop-rest.invariant.is_packed)

pub overflow_add-count : goal.overflow_add-count
overflow_add-count c =
    omega (arith, c.loop-rest.invariant.so_far, count_fits c.args.bytes.now c.requires, ap length (opened c.loop-rest.rest.now (some_left _ _ c.is_empty.ensures c.loop-rest-test.true) c.loop-rest.invariant.is_packed))

pub loop-rest-smaller : goal.loop-rest-smaller
loop-rest-smaller c =
    let rest = c.split_text.ensures.rest ∙ ap behind_text c.split_key.ensures.rest in
    subst (λ (l : List ℕ). length l < length c.loop-rest.rest.now) (sym rest) (shorter c.loop-rest.rest.now (some_left _ _ c.is_empty.ensures c.loop-rest-test.true) c.loop-rest.invariant.is_packed)

pub loop-rest-preserved : goal.loop-rest-preserved
loop-rest-preserved c =
    let rest = c.split_text.ensures.rest ∙ ap behind_text c.split_key.ensures.rest in
    record {
      is_packed = subst IsPacked (sym rest) (later_packed c.loop-rest.rest.now (some_left _ _ c.is_empty.ensures c.loop-rest-test.true) c.loop-rest.invariant.is_packed);
      so_far = omega (arith, c.loop-rest.invariant.so_far, ap (λ l. length (entries_in l)) rest, ap length (opened c.loop-rest.rest.now (some_left _ _ c.is_empty.ensures c.loop-rest-test.true) c.loop-rest.invariant.is_packed));
    }

pub returns : goal.returns
returns c =
    omega (arith, c.loop-rest.invariant.so_far, ap length (none_in c.loop-rest.rest.now (no_more _ _ c.is_empty.ensures c.loop-rest-test.false)))
