use Rattle.std.proofs.Common.{sym, ap, ◌∙◌}
use Rattle.std.specs.FinMap as map
use Rattle.dc_text.specs.Bytes.{is_nil}
use Rattle.dc_text.proofs.MapLemmas.{entries-in_order, rises, seen}
use Rattle.dc_text.proofs.maps.TextMap.is_empty.Goals as goal

pub returns-in-None : goal.returns-in-None
returns-in-None g c =
    ap (λ es. is_nil (seen (λ k. k.items) es)) (sym c.in-None.ensures.steps.0 ∙ c.iter.ensures.rest)
    ∙ ap is_nil (sym (entries-in_order _ (rises (λ k. k.items) c.self.inside.entries.entries c.iter.ensures.ordered)) ∙ ap map.entries c.self.view_is)

pub returns-in-Some : goal.returns-in-Some
returns-in-Some g c =
    ap (λ es. is_nil (seen (λ k. k.items) es)) (sym c.in-Some.ensures.steps ∙ c.iter.ensures.rest)
    ∙ ap is_nil (sym (entries-in_order _ (rises (λ k. k.items) c.self.inside.entries.entries c.iter.ensures.ordered)) ∙ ap map.entries c.self.view_is)
