use Rattle.std.proofs.Common.{◌∷◌, refl, List, ℕ, length, ◌<◌, Some, ap, ◌∙◌, sym, subst}
use Rattle.dc_parts.specs.Packed.{HasText, IsPacked, text_at, behind_text, key_at, packed}
use Rattle.dc_parts.proofs.PackedLemmas.{some_left, no_more, has_value, later_packed, shorter, none_left, passed, stopped, met}
use Rattle.dc_parts.proofs.places.place_of.Goals as goal

pub compare_front-order-requires-clause-some : goal.compare_front-order-requires-clause-some
compare_front-order-requires-clause-some c = some_left _ _ c.is_empty.ensures c.loop-key-test.true

pub split_text-requires : goal.split_text-requires
split_text-requires c = subst HasText (sym c.compare_front-order.ensures.rest) (has_value c.loop-key.rest.now (some_left _ _ c.is_empty.ensures c.loop-key-test.true) c.loop-key.invariant.is_packed)

pub loop-key-smaller : goal.loop-key-smaller
loop-key-smaller c =
    let rest = c.split_text.ensures.rest ∙ ap behind_text c.compare_front-order.ensures.rest in
    subst (λ (l : List ℕ). length l < length c.loop-key.rest.now) (sym rest) (shorter c.loop-key.rest.now (some_left _ _ c.is_empty.ensures c.loop-key-test.true) c.loop-key.invariant.is_packed)

-- the key is lower than that of the entry
pub returns-in-Less-clause-from : goal.returns-in-Less-clause-from
returns-in-Less-clause-from c =
    (stopped (c.args.key.mark ∷ c.args.key.key.now) c.loop-key.rest.now (key_at c.loop-key.rest.now) c.split_text.result.1.now (some_left _ _ c.is_empty.ensures c.loop-key-test.true) c.loop-key.invariant.is_packed refl (c.split_text.ensures.rest ∙ ap behind_text c.compare_front-order.ensures.rest) (sym c.compare_front-order.ensures.order ∙ c.in-Less.is)).0
    ∙ ap packed c.loop-key.invariant.same_from

pub returns-in-Less-clause-behind : goal.returns-in-Less-clause-behind
returns-in-Less-clause-behind c =
    (stopped (c.args.key.mark ∷ c.args.key.key.now) c.loop-key.rest.now (key_at c.loop-key.rest.now) c.split_text.result.1.now (some_left _ _ c.is_empty.ensures c.loop-key-test.true) c.loop-key.invariant.is_packed refl (c.split_text.ensures.rest ∙ ap behind_text c.compare_front-order.ensures.rest) (sym c.compare_front-order.ensures.order ∙ c.in-Less.is)).1
    ∙ ap packed c.loop-key.invariant.same_behind

pub returns-in-Less-clause-value : goal.returns-in-Less-clause-value
returns-in-Less-clause-value c =
    (stopped (c.args.key.mark ∷ c.args.key.key.now) c.loop-key.rest.now (key_at c.loop-key.rest.now) c.split_text.result.1.now (some_left _ _ c.is_empty.ensures c.loop-key-test.true) c.loop-key.invariant.is_packed refl (c.split_text.ensures.rest ∙ ap behind_text c.compare_front-order.ensures.rest) (sym c.compare_front-order.ensures.order ∙ c.in-Less.is)).2
    ∙ c.loop-key.invariant.same_value

-- the entry has the key
pub returns-in-Equal-clause-from : goal.returns-in-Equal-clause-from
returns-in-Equal-clause-from c =
    (met (c.args.key.mark ∷ c.args.key.key.now) c.loop-key.rest.now (key_at c.loop-key.rest.now) c.split_text.result.1.now (some_left _ _ c.is_empty.ensures c.loop-key-test.true) c.loop-key.invariant.is_packed refl (c.split_text.ensures.rest ∙ ap behind_text c.compare_front-order.ensures.rest) (sym c.compare_front-order.ensures.order ∙ c.in-Equal.is)).0
    ∙ ap packed c.loop-key.invariant.same_from

pub returns-in-Equal-clause-behind : goal.returns-in-Equal-clause-behind
returns-in-Equal-clause-behind c =
    (met (c.args.key.mark ∷ c.args.key.key.now) c.loop-key.rest.now (key_at c.loop-key.rest.now) c.split_text.result.1.now (some_left _ _ c.is_empty.ensures c.loop-key-test.true) c.loop-key.invariant.is_packed refl (c.split_text.ensures.rest ∙ ap behind_text c.compare_front-order.ensures.rest) (sym c.compare_front-order.ensures.order ∙ c.in-Equal.is)).1
    ∙ ap packed c.loop-key.invariant.same_behind

pub returns-in-Equal-clause-value : goal.returns-in-Equal-clause-value
returns-in-Equal-clause-value c =
    ap Some (c.split_text.ensures.text ∙ ap text_at c.compare_front-order.ensures.rest) ∙ (met (c.args.key.mark ∷ c.args.key.key.now) c.loop-key.rest.now (key_at c.loop-key.rest.now) c.split_text.result.1.now (some_left _ _ c.is_empty.ensures c.loop-key-test.true) c.loop-key.invariant.is_packed refl (c.split_text.ensures.rest ∙ ap behind_text c.compare_front-order.ensures.rest) (sym c.compare_front-order.ensures.order ∙ c.in-Equal.is)).2
    ∙ c.loop-key.invariant.same_value

-- the key is higher
pub loop-key-preserved : goal.loop-key-preserved
loop-key-preserved c =
    let rest = c.split_text.ensures.rest ∙ ap behind_text c.compare_front-order.ensures.rest in
    let on = passed (c.args.key.mark ∷ c.args.key.key.now) c.loop-key.rest.now (key_at c.loop-key.rest.now) c.split_text.result.1.now (some_left _ _ c.is_empty.ensures c.loop-key-test.true) c.loop-key.invariant.is_packed refl (c.split_text.ensures.rest ∙ ap behind_text c.compare_front-order.ensures.rest) (sym c.compare_front-order.ensures.order ∙ c.in-Greater.is) in
    record {
      is_packed = subst IsPacked (sym rest) (later_packed c.loop-key.rest.now (some_left _ _ c.is_empty.ensures c.loop-key-test.true) c.loop-key.invariant.is_packed);
      same_from = on.0 ∙ c.loop-key.invariant.same_from;
      same_behind = on.1 ∙ c.loop-key.invariant.same_behind;
      same_value = on.2 ∙ c.loop-key.invariant.same_value;
    }

-- no entry is left
pub returns-clause-from : goal.returns-clause-from
returns-clause-from c = (none_left (c.args.key.mark ∷ c.args.key.key.now) c.loop-key.rest.now (no_more _ _ c.is_empty.ensures c.loop-key-test.false)).0 ∙ ap packed c.loop-key.invariant.same_from

pub returns-clause-behind : goal.returns-clause-behind
returns-clause-behind c = (none_left (c.args.key.mark ∷ c.args.key.key.now) c.loop-key.rest.now (no_more _ _ c.is_empty.ensures c.loop-key-test.false)).1 ∙ ap packed c.loop-key.invariant.same_behind

pub returns-clause-value : goal.returns-clause-value
returns-clause-value c = (none_left (c.args.key.mark ∷ c.args.key.key.now) c.loop-key.rest.now (no_more _ _ c.is_empty.ensures c.loop-key-test.false)).2 ∙ c.loop-key.invariant.same_value
