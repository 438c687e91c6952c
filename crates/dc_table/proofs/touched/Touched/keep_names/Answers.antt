use Rattle.std.proofs.Common.{◌≡◌, true, [], fold, sym, ap, ◌∙◌, map as each}
use Rattle.std.specs.List.{IsDistinct}
use Rattle.std.specs.Str.{bytes_eq}
use Rattle.indexmap.specs.IndexMap.{keys, index_map_len}
use Rattle.dc_table.specs.Marks.{are_within, marks_of, touched_in, name_at, AtPlaces, AsNames}
use Rattle.dc_table.specs.Tracked.{touch}
use Rattle.dc_table.proofs.MarkLemmas.{named_apart}
use Rattle.dc_table.proofs.TouchedLemmas.{each_first}
use Rattle.dc_table.proofs.touched.Touched.keep_names.Goals as goal

pub returns-in_ok-names-2-clause-ok : goal.returns-in_ok-names-2-clause-ok
returns-in_ok-names-2-clause-ok c =
    let places = c.in-Places.places in
    let all = keys c.args.items.now in
    let within : are_within (index_map_len c.args.items.now) (AtPlaces places) ≡ true = ap (λ t. are_within (index_map_len c.args.items.now) (marks_of t)) (sym c.in-Places.is) ∙ c.requires in
    let apart : IsDistinct bytes_eq (each (name_at all) places) = named_apart c.args.items.now.entries places within c.names_at.ensures.distinct c.as_slice.ensures.distinct in
    ap AsNames (c.in_ok-names-2.ensures ∙ ap (λ l. fold touch [] (each (λ name. name.now) l)) c.as_slice-in-Places.ensures.value
    ∙ ap (fold touch []) (c.in_ok-names.ensures.names ∙ ap (each (name_at all)) c.as_slice.ensures.value) ∙ each_first (each (name_at all) places) apart)
    ∙ ap (λ t. AsNames (touched_in all (marks_of t))) (sym c.in-Places.is)
