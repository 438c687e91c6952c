use Rattle.std.proofs.Common.{sym, ap, ◌∙◌}
use Rattle.std.specs.FinMap as map
use Rattle.dc_text.proofs.MapLemmas.{entries-in_order, rises, seen}
use Rattle.dc_text.proofs.maps.TextMap.iter.Goals as goal

pub returns : goal.returns
returns g c =
    ap (seen (λ k. k.items)) c.iter.ensures.rest
    ∙ sym (entries-in_order _ (rises (λ k. k.items) c.self.inside.entries.entries c.iter.ensures.ordered)) ∙ ap map.entries c.self.view_is
