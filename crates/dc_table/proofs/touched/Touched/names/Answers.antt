use Rattle.std.proofs.Common.{◌≡◌, true, sym, ap, ◌∙◌, subst}
use Rattle.std.specs.List.{IsDistinct}
use Rattle.std.specs.Str.{bytes_eq}
use Rattle.indexmap.specs.IndexMap.{keys, index_map_len}
use Rattle.dc_table.specs.Marks.{are_within, marks_of, touched_in, AtPlaces}
use Rattle.dc_table.proofs.MarkLemmas.{named_apart}
use Rattle.dc_table.proofs.touched.Touched.names.Goals as goal

pub returns-in-Places-clause-distinct : goal.returns-in-Places-clause-distinct
returns-in-Places-clause-distinct c =
    let within : are_within (index_map_len c.args.items.now) (AtPlaces c.in-Places.places) ≡ true = ap (λ t. are_within (index_map_len c.args.items.now) (marks_of t)) (sym c.in-Places.is) ∙ c.requires in
    subst (λ t. IsDistinct bytes_eq (touched_in (keys c.args.items.now) (marks_of t))) (sym c.in-Places.is)
    (named_apart c.args.items.now.entries c.in-Places.places within c.names_at.ensures.distinct c.as_slice.ensures.distinct)
