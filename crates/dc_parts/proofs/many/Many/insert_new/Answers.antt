use Rattle.std.proofs.Common.{◌∷◌, not, sym, ap, ◌∙◌}
use Rattle.std.specs.List as holes
use Rattle.std.specs.FinMap as map
use Rattle.dc_parts.proofs.ManyLemmas.{has_at, has_no_gap}
use Rattle.dc_parts.proofs.PlaceLemmas.{insert_gap, is_sorted_put, from_sorted_put}
use Rattle.dc_parts.proofs.many.Many.insert_new.Goals as goal

-- the key is there
pub returns-in-Ok-clause-new : goal.returns-in-Ok-clause-new
returns-in-Ok-clause-new c =
    let q = c.args.mark ∷ c.args.key.now in
    ap not (sym (has_at q c.self.inside.pairs.items c.in-Ok.field-0 c.args.self.now c.self.invariant c.self.view_is (rw c.deref.ensures.value at c.in-Ok.ensures)))

-- it isn't, and the pair is put in the gap
pub invariant_of-self-in-Err : goal.invariant_of-self-in-Err
invariant_of-self-in-Err c =
    let q = c.args.mark ∷ c.args.key.now in
    let added = insert_gap q c.args.value.now c.self.inside.pairs.items c.in-Err.place (rw c.deref.ensures.value at c.in-Err.ensures) in
    is_sorted_put q c.args.value.now c.self.inside.pairs.items _ c.self.invariant (c.in_ok-insert-in-Err.ensures.items ∙ ap (holes.insert c.self.inside.pairs.items c.in-Err.place) c.in_ok-pair-in-Err.ensures ∙ added)

pub returns-in_ok-insert-in-Err-clause-new : goal.returns-in_ok-insert-in-Err-clause-new
returns-in_ok-insert-in-Err-clause-new c =
    let q = c.args.mark ∷ c.args.key.now in
    ap not (sym (has_no_gap q c.self.inside.pairs.items c.in-Err.place c.args.self.now c.self.invariant c.self.view_is (rw c.deref.ensures.value at c.in-Err.ensures)))

pub returns-in_ok-insert-in-Err-clause-put : goal.returns-in_ok-insert-in-Err-clause-put
returns-in_ok-insert-in-Err-clause-put c =
    let q = c.args.mark ∷ c.args.key.now in
    let added = insert_gap q c.args.value.now c.self.inside.pairs.items c.in-Err.place (rw c.deref.ensures.value at c.in-Err.ensures) in
    from_sorted_put q c.args.value.now c.self.inside.pairs.items _ c.self.invariant (c.in_ok-insert-in-Err.ensures.items ∙ ap (holes.insert c.self.inside.pairs.items c.in-Err.place) c.in_ok-pair-in-Err.ensures ∙ added)
    ∙ ap (λ m. map.insert m q c.args.value.now) c.self.view_is
