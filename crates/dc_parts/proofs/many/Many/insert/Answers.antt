use Rattle.std.proofs.Common.{◌∷◌, ap, ◌∙◌}
use Rattle.std.specs.List as holes
use Rattle.std.specs.FinMap as map
use Rattle.dc_parts.proofs.ManyLemmas.{set_pair}
use Rattle.dc_parts.proofs.PlaceLemmas.{insert_gap, is_sorted_put, from_sorted_put}
use Rattle.dc_parts.proofs.many.Many.insert.Goals as goal

-- the key was there, and its pair is written over
pub invariant_of-self : goal.invariant_of-self
invariant_of-self c =
    let q = c.args.mark ∷ c.args.key.now in
    let written = set_pair q c.args.value.now c.self.inside.pairs.items c.in-Ok.place c.in_ok-pair.pair c.self.invariant (rw c.deref.ensures.value at c.in-Ok.ensures) c.in_ok-pair.ensures in
    is_sorted_put q c.args.value.now c.self.inside.pairs.items _ c.self.invariant written

pub returns-in-Ok-clause-ok : goal.returns-in-Ok-clause-ok
returns-in-Ok-clause-ok c =
    let q = c.args.mark ∷ c.args.key.now in
    let written = set_pair q c.args.value.now c.self.inside.pairs.items c.in-Ok.place c.in_ok-pair.pair c.self.invariant (rw c.deref.ensures.value at c.in-Ok.ensures) c.in_ok-pair.ensures in
    from_sorted_put q c.args.value.now c.self.inside.pairs.items _ c.self.invariant written
    ∙ ap (λ m. map.insert m q c.args.value.now) c.self.view_is

-- the pair is put in the gap
pub invariant_of-self-in-Err : goal.invariant_of-self-in-Err
invariant_of-self-in-Err c =
    let q = c.args.mark ∷ c.args.key.now in
    let added = insert_gap q c.args.value.now c.self.inside.pairs.items c.in-Err.place (rw c.deref.ensures.value at c.in-Err.ensures) in
    is_sorted_put q c.args.value.now c.self.inside.pairs.items _ c.self.invariant (c.in_ok-insert-in-Err.ensures.items ∙ ap (holes.insert c.self.inside.pairs.items c.in-Err.place) c.in_ok-pair.ensures ∙ added)

pub returns-in_ok-insert-in-Err-clause-ok : goal.returns-in_ok-insert-in-Err-clause-ok
returns-in_ok-insert-in-Err-clause-ok c =
    let q = c.args.mark ∷ c.args.key.now in
    let added = insert_gap q c.args.value.now c.self.inside.pairs.items c.in-Err.place (rw c.deref.ensures.value at c.in-Err.ensures) in
    from_sorted_put q c.args.value.now c.self.inside.pairs.items _ c.self.invariant (c.in_ok-insert-in-Err.ensures.items ∙ ap (holes.insert c.self.inside.pairs.items c.in-Err.place) c.in_ok-pair.ensures ∙ added)
    ∙ ap (λ m. map.insert m q c.args.value.now) c.self.view_is
