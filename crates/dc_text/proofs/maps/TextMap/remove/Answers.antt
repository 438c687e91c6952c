use Rattle.std.proofs.Common.{ap, ◌∙◌}
use Rattle.std.specs.FinMap as map
use Rattle.dc_text.proofs.MapLemmas.{map-remove}
use Rattle.dc_text.proofs.maps.TextMap.remove.Goals as goal

pub returns : goal.returns
returns g c =
    map-remove (λ k. k.items) c.self.inside.entries.entries c.remove.new.self.entries c.args.key.now c.remove.ensures.entries c.remove.ensures.updates.1
    ∙ ap (λ m. map.remove m c.args.key.now) c.self.view_is
