use Rattle.std.proofs.Common.{◌≡◌, Some, get_or, slice_get, map as each, sym, ap, ◌∙◌, ◌∷◌, []}
use Rattle.std.specs.Map.Iter.{deref_pair}
use Rattle.std.specs.Option.{option_map}
use Rattle.std.proofs.lemmas.List.{map-append}
use Rattle.indexmap.specs.IndexMap.{keys}
use Rattle.dc_table.proofs.MarkLemmas.{named_next, name_of_entry}
use Rattle.dc_table.proofs.touched.names_at.Goals as goal

pub loop-place-preserved : goal.loop-place-preserved
loop-place-preserved c =
    let entries = c.args.items.now.entries in
    let i = c.loop-place.place-index in
    let place = get_or c.args.places.now i 0 in
    let pair = c.unwrap.result in
    let entry : slice_get entries place ≡ Some (pair.0.now, pair.1.now) = ap (λ es. slice_get es place) (sym c.as_slice-entries.ensures.entries) ∙ sym c.get_index.ensures.entry ∙ ap (option_map deref_pair) c.unwrap.ensures in
    ap (each (λ name. name.now)) c.in_ok-push.ensures.items ∙ map-append (λ name. name.now) c.loop-place.names.items (c.bytes.result ∷ [])
    ∙ named_next (keys c.args.items.now) c.args.places.now i 0 (each (λ name. name.now) c.loop-place.names.items) c.bytes.result.now c.loop-place-test.true c.loop-place.invariant
    (name_of_entry entries place pair.0.now pair.1.now entry ∙ sym c.bytes.ensures)
