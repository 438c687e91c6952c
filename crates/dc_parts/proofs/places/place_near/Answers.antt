use Rattle.std.proofs.Common.{◌∷◌, refl, ap, ◌∙◌, sym, subst}
use Rattle.dc_parts.specs.Packed.{HasText, IsPacked, behind_text, key_at, packed}
use Rattle.dc_parts.proofs.PackedLemmas.{some_left, has_value, later_packed}
use Rattle.dc_parts.proofs.FingerLemmas.{finger_fits, tail_packed, past_finger}
use Rattle.dc_parts.proofs.places.place_near.Goals as goal

pub split_at-requires : goal.split_at-requires
split_at-requires c = finger_fits c.args.finger c.args.bytes.now c.requires.packed c.requires.finger

pub compare_front-order-requires-clause-packed : goal.compare_front-order-requires-clause-packed
compare_front-order-requires-clause-packed c = (tail_packed c.args.finger c.args.bytes.now c.requires.packed c.requires.finger c.split_at.result.1.now c.split_at.ensures.back).1

pub compare_front-order-requires-clause-some : goal.compare_front-order-requires-clause-some
compare_front-order-requires-clause-some c = some_left _ _ c.is_empty.ensures c.if-not-is_empty.true

pub split_text-requires : goal.split_text-requires
split_text-requires c = subst HasText (sym c.compare_front-order.ensures.rest) (has_value c.split_at.result.1.now (some_left _ _ c.is_empty.ensures c.if-not-is_empty.true) (tail_packed c.args.finger c.args.bytes.now c.requires.packed c.requires.finger c.split_at.result.1.now c.split_at.ensures.back).1)

pub place_behind-requires : goal.place_behind-requires
place_behind-requires c =
    let rest = c.split_text.ensures.rest ∙ ap behind_text c.compare_front-order.ensures.rest in
    subst IsPacked (sym rest) (later_packed c.split_at.result.1.now (some_left _ _ c.is_empty.ensures c.if-not-is_empty.true) (tail_packed c.args.finger c.args.bytes.now c.requires.packed c.requires.finger c.split_at.result.1.now c.split_at.ensures.back).1)

-- the key is above that of the entry at the finger
pub returns-in-Greater-clause-from : goal.returns-in-Greater-clause-from
returns-in-Greater-clause-from c =
    c.place_behind.ensures.from ∙ ap packed (past_finger c.args.finger c.args.bytes.now c.requires.packed c.requires.finger c.split_at.result.1.now c.split_at.ensures.back (c.args.key.mark ∷ c.args.key.key.now) (key_at c.split_at.result.1.now) c.split_text.result.1.now c.requires.sorted (some_left _ _ c.is_empty.ensures c.if-not-is_empty.true) refl (c.split_text.ensures.rest ∙ ap behind_text c.compare_front-order.ensures.rest) (sym c.compare_front-order.ensures.order ∙ c.in-Greater.is)).0

pub returns-in-Greater-clause-behind : goal.returns-in-Greater-clause-behind
returns-in-Greater-clause-behind c =
    c.place_behind.ensures.behind ∙ ap packed (past_finger c.args.finger c.args.bytes.now c.requires.packed c.requires.finger c.split_at.result.1.now c.split_at.ensures.back (c.args.key.mark ∷ c.args.key.key.now) (key_at c.split_at.result.1.now) c.split_text.result.1.now c.requires.sorted (some_left _ _ c.is_empty.ensures c.if-not-is_empty.true) refl (c.split_text.ensures.rest ∙ ap behind_text c.compare_front-order.ensures.rest) (sym c.compare_front-order.ensures.order ∙ c.in-Greater.is)).1

pub returns-in-Greater-clause-value : goal.returns-in-Greater-clause-value
returns-in-Greater-clause-value c =
    c.place_behind.ensures.value ∙ (past_finger c.args.finger c.args.bytes.now c.requires.packed c.requires.finger c.split_at.result.1.now c.split_at.ensures.back (c.args.key.mark ∷ c.args.key.key.now) (key_at c.split_at.result.1.now) c.split_text.result.1.now c.requires.sorted (some_left _ _ c.is_empty.ensures c.if-not-is_empty.true) refl (c.split_text.ensures.rest ∙ ap behind_text c.compare_front-order.ensures.rest) (sym c.compare_front-order.ensures.order ∙ c.in-Greater.is)).2
