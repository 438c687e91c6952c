use Rattle.std.proofs.Common.{◌≡◌, ◌∷◌, true, sym, ap, ◌∙◌}
use Rattle.std.specs.Ordering.{is_lt}
use Rattle.dc_text.specs.Maps.{text_cmp}
use Rattle.dc_parts.proofs.ManyLemmas.{gap_behind}
use Rattle.dc_parts.proofs.many.search_from_end.Goals as goal

pub returns-then-is_lt : goal.returns-then-is_lt
returns-then-is_lt c =
    let q = c.args.mark ∷ c.args.key.now in
    let low : is_lt (text_cmp c.in-Some.last.now.0 q) ≡ true
    = ap (λ last. is_lt (text_cmp last q)) (sym c.key.ensures) ∙ ap is_lt (sym c.compare.ensures) ∙ sym c.is_lt.ensures ∙ c.if-is_lt.true in
    gap_behind q c.args.pairs.now _ c.in-Some.last.now c.requires c.in-Some.ensures.cases.0 low
