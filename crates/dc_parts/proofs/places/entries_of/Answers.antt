use Rattle.std.proofs.Common.{◌++◌, List, ℕ, Bor, map, length, ◌<◌, ap, ◌∙◌, sym, subst}
use Rattle.dc_parts.specs.Packed.{HasText, IsPacked, text_at, behind_text, key_at, behind_key, entries_in}
use Rattle.dc_parts.proofs.PackedLemmas.{some_left, has_key, has_value, later_packed, shorter, opened, listed}
use Rattle.dc_parts.proofs.places.entries_of.Goals as goal

pub split_key-requires : goal.split_key-requires
split_key-requires c = has_key c.loop-rest.rest.now (some_left _ _ c.is_empty.ensures c.loop-rest-test.true) c.loop-rest.invariant.is_packed

pub split_text-requires : goal.split_text-requires
split_text-requires c = subst HasText (sym c.split_key.ensures.rest) (has_value c.loop-rest.rest.now (some_left _ _ c.is_empty.ensures c.loop-rest-test.true) c.loop-rest.invariant.is_packed)

pub loop-rest-smaller : goal.loop-rest-smaller
loop-rest-smaller c =
    let rest = c.split_text.ensures.rest ∙ ap behind_text c.split_key.ensures.rest in
    subst (λ (l : List ℕ). length l < length c.loop-rest.rest.now) (sym rest) (shorter c.loop-rest.rest.now (some_left _ _ c.is_empty.ensures c.loop-rest-test.true) c.loop-rest.invariant.is_packed)

pub loop-rest-preserved : goal.loop-rest-preserved
loop-rest-preserved c =
    let key = c.split_key.result in
    let value = c.split_text.result in
    let rest = c.split_text.ensures.rest ∙ ap behind_text c.split_key.ensures.rest in
    let value_is = c.split_text.ensures.text ∙ ap text_at c.split_key.ensures.rest in
    let shown : Bor (List ℕ) × Bor (List ℕ) → List ℕ × List ℕ = λ e. (e.0.now, e.1.now) in
    record {
      is_packed = subst IsPacked (sym rest) (later_packed c.loop-rest.rest.now (some_left _ _ c.is_empty.ensures c.loop-rest-test.true) c.loop-rest.invariant.is_packed);
      so_far = ap (λ b. map shown c.push.new.self.items ++ entries_in b) rest
          ∙ listed shown c.loop-rest.entries.items c.push.new.self.items (key.0, value.0) (entries_in (behind_text (behind_key c.loop-rest.rest.now))) (entries_in c.args.bytes.now) (key_at c.loop-rest.rest.now, text_at (behind_key c.loop-rest.rest.now))
          c.in_ok-push.ensures.items (λ i. (c.split_key.ensures.key i, value_is i))
          (ap (λ l. map shown c.loop-rest.entries.items ++ l) (sym (opened c.loop-rest.rest.now (some_left _ _ c.is_empty.ensures c.loop-rest-test.true) c.loop-rest.invariant.is_packed)) ∙ c.loop-rest.invariant.so_far);
    }
