use Rattle.std.proofs.Common.{◌∷◌, ◌-◌, List, ℕ, length, take, drop, ap, ◌∙◌, arith}
use Rattle.dc_parts.specs.Packed.{packed, entries_in, before, from, behind}
use Rattle.dc_parts.proofs.PackedLemmas.{parts, at_from, at_behind}
use Rattle.dc_parts.proofs.places.span_of.Goals as goal

pub overflow_sub-result : goal.overflow_sub-result
overflow_sub-result c =
    let q = c.args.key.mark ∷ c.args.key.key.now in
    let es = entries_in c.args.bytes.now in
    let cut = parts c.args.bytes.now (packed (before q es)) (packed (from q es)) (at_from q c.args.bytes.now c.requires.packed) in
    omega (arith, cut.2, ap length c.place_near-place.ensures.from)

pub overflow_sub-result-2 : goal.overflow_sub-result-2
overflow_sub-result-2 c =
    let q = c.args.key.mark ∷ c.args.key.key.now in
    let es = entries_in c.args.bytes.now in
    let rest = at_behind q c.args.bytes.now c.requires.packed in
    let cut = parts c.args.bytes.now rest.0 (packed (behind q es)) rest.1 in
    omega (arith, cut.2, ap length c.place_near-place.ensures.behind)

pub returns-clause-start : goal.returns-clause-start
returns-clause-start c =
    let q = c.args.key.mark ∷ c.args.key.key.now in
    let es = entries_in c.args.bytes.now in
    ap (λ (rest : List ℕ). take (length c.args.bytes.now - length rest) c.args.bytes.now) c.place_near-place.ensures.from
    ∙ (parts c.args.bytes.now (packed (before q es)) (packed (from q es)) (at_from q c.args.bytes.now c.requires.packed)).0

pub returns-clause-end : goal.returns-clause-end
returns-clause-end c =
    let q = c.args.key.mark ∷ c.args.key.key.now in
    let es = entries_in c.args.bytes.now in
    let rest = at_behind q c.args.bytes.now c.requires.packed in
    ap (λ (l : List ℕ). drop (length c.args.bytes.now - length l) c.args.bytes.now) c.place_near-place.ensures.behind
    ∙ (parts c.args.bytes.now rest.0 (packed (behind q es)) rest.1).1

pub returns-clause-ordered : goal.returns-clause-ordered
returns-clause-ordered c =
    let q = c.args.key.mark ∷ c.args.key.key.now in
    let rest = at_behind q c.args.bytes.now c.requires.packed in
    omega (arith, rest.2, ap length c.place_near-place.ensures.from, ap length c.place_near-place.ensures.behind)
