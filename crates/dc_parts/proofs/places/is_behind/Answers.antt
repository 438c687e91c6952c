use Rattle.std.proofs.Common.{◌∷◌, ap, ◌∙◌, sym, subst}
use Rattle.std.specs.Ordering.{is_gt}
use Rattle.dc_parts.specs.Packed.{HasText, behind_text}
use Rattle.dc_parts.proofs.FingerLemmas.{finger_fits, tail_packed, behind_last, is_above}
use Rattle.dc_parts.proofs.PackedLemmas.{some_left, no_more, has_value}
use Rattle.dc_parts.proofs.places.is_behind.Goals as goal

pub split_at-requires : goal.split_at-requires
split_at-requires c = finger_fits c.args.finger c.args.bytes.now c.requires.packed c.requires.finger

pub compare_front-order-requires-clause-packed : goal.compare_front-order-requires-clause-packed
compare_front-order-requires-clause-packed c = (tail_packed c.args.finger c.args.bytes.now c.requires.packed c.requires.finger c.split_at.result.1.now c.split_at.ensures.back).1

pub split_text-requires : goal.split_text-requires
split_text-requires c =
    let tail = c.split_at.result.1.now in
    let packed_tail = (tail_packed c.args.finger c.args.bytes.now c.requires.packed c.requires.finger tail c.split_at.ensures.back).1 in
    subst HasText (sym c.compare_front-order.ensures.rest) (has_value tail (some_left _ _ c.is_empty.ensures c.if-is_empty.false) packed_tail)

-- the key is above that of the last entry
pub returns-then-is_empty-2 : goal.returns-then-is_empty-2
returns-then-is_empty-2 c test =
    let tail = c.split_at.result.1.now in
    let above = is_above _ (ap is_gt (sym c.compare_front-order.ensures.order) ∙ sym c.is_gt.ensures ∙ test) in
    behind_last (c.args.key.mark ∷ c.args.key.key.now) c.args.bytes.now tail c.split_text.result.1.now c.args.finger c.requires.packed c.requires.finger c.split_at.ensures.back c.requires.sorted
    (some_left _ _ c.is_empty.ensures c.if-is_empty.false) (c.split_text.ensures.rest ∙ ap behind_text c.compare_front-order.ensures.rest)
    (no_more _ _ c.is_empty-2.ensures c.if-is_empty-2.true) above
