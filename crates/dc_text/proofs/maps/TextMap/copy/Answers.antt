use Rattle.std.proofs.Common.{sym, ap, ◌∙◌, ◌++◌, [], ◌∷◌}
use Rattle.std.proofs.lemmas.List.{append-nil}
use Rattle.std.specs.FinMap as map
use Rattle.dc_text.proofs.MapLemmas.{seen, entries-in_order, entries-filled}
use Rattle.dc_text.proofs.maps.TextMap.copy.Goals as goal

pub loop-key-init : goal.loop-key-init
loop-key-init g c =
    ap (λ m. map.entries m ++ seen (λ k. k.items) c.into_iter-key-iterator.result) c.new-copy.ensures
    ∙ ap (λ es. es ++ seen (λ k. k.items) c.into_iter-key-iterator.result) (entries-in_order [] tt)
    ∙ ap (seen (λ k. k.items)) c.into_iter-key-iterator.ensures.into_iter_gives ∙ c.iter-key-items.ensures

pub loop-key-preserved : goal.loop-key-preserved
loop-key-preserved g c =
    let key = c.in_ok-from_bytes.field-0 in
    let value = c.in_ok-copied.field-0 in
    let rest = seen (λ k. k.items) c.next.new.self in
    ap (λ m. map.entries m ++ rest) c.in_ok-insert.ensures.ok
    ∙ entries-filled c.loop-key.copy c.args.self.now rest key value
    ((λ i. map.entries c.loop-key.copy ++ ((c.in_ok-from_bytes.ensures ∙ c.deref.ensures.value) i, c.in_ok-copied.ensures i) ∷ rest)
    ∙ ap (λ es. map.entries c.loop-key.copy ++ seen (λ k. k.items) es) (sym c.in-Some.ensures.steps) ∙ c.loop-key.invariant)

pub returns : goal.returns
returns g c = map.same_entries_map c.loop-key.copy c.args.self.now
    (sym (append-nil (map.entries c.loop-key.copy)) ∙ ap (λ es. map.entries c.loop-key.copy ++ seen (λ k. k.items) es) (sym c.in-None.ensures.steps.0) ∙ c.loop-key.invariant)
