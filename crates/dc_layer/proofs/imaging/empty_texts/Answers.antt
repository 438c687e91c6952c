use Rattle.std.proofs.Common.{◌≡◌, ◌+◌, ◌++◌, ◌∷◌, [], take, get_or, map as each, sym, ap, ◌∙◌}
use Rattle.std.proofs.lemmas.List.{map-append}
use Rattle.dc_layer.specs.PrefixTexts.{empty_texts}
use Rattle.dc_layer.proofs.PrefixLemmas.{prefixes, blank_next, taken_more}
use Rattle.dc_layer.proofs.imaging.empty_texts.Goals as goal

pub loop-name-preserved : goal.loop-name-preserved
loop-name-preserved c =
    let n = c.loop-name.name-index in
    let names = c.args.names.now in
    let name = get_or names n (record { ref_ptr = (0, 0); now = [] }) in
    let more : each (λ name. name.now) (take (n + 1) names) ≡ each (λ name. name.now) (take n names) ++ name.now ∷ []
    = ap (each (λ name. name.now)) (taken_more names n (record { ref_ptr = (0, 0); now = [] }) c.loop-name-test.true) ∙ map-append (λ name. name.now) (take n names) (name ∷ []) in
    blank_next c.loop-name.texts.entries c.insert.new.self.entries (each (λ name. name.now) (take n names)) name.now c.new.result c.new-in-loop-name.result c.loop-name.invariant c.new-in-loop-name.ensures
    c.in_ok-insert.ensures.entries (c.new.ensures ∙ c.in_ok-front.ensures ∙ c.prefix.ensures)
    ∙ ap (λ ns. empty_texts (prefixes ns)) (sym more)
