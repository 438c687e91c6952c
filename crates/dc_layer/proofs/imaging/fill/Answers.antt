use Rattle.std.proofs.Common.{◌≡◌, ◌∷◌, ◌+◌, drop, map as each, sym, ap, ◌∙◌}
use Rattle.std.proofs.lemmas.List.{drop_more, drop_all}
use Rattle.dc_layer.specs.PrefixTexts.{with_records}
use Rattle.dc_layer.proofs.PrefixLemmas.{filled_next, filled_all}
use Rattle.dc_layer.proofs.imaging.fill.Goals as goal

pub loop-name-preserved : goal.loop-name-preserved
loop-name-preserved c =
    let n = c.loop-name.name-index in
    let items = c.deref-name-items.result.now in
    let pair = c.loop-name-item.result in
    let next : drop n items ≡ pair ∷ drop (n + 1) items = drop_more items n pair c.loop-name-test.true ∙ ap (λ p. p ∷ drop (n + 1) items) (sym c.loop-name-item.is) in
    filled_next (pair.0.now, pair.1.now) (each (λ e. (e.0.now, e.1.now)) (drop (n + 1) items)) c.loop-name.texts.entries c.add_record.new.texts.entries c.in_ok-add_record.ensures
    ∙ ap (λ es. each (with_records (each (λ e. (e.0.now, e.1.now)) es)) c.loop-name.texts.entries) (sym next) ∙ c.loop-name.invariant

pub returns : goal.returns
returns c =
    sym (filled_all c.loop-name.texts.entries)
    ∙ ap (λ es. each (with_records (each (λ e. (e.0.now, e.1.now)) es)) c.loop-name.texts.entries) (sym (drop_all c.loop-name.name-index c.deref-name-items.result.now c.loop-name-test.false)) ∙ c.loop-name.invariant
