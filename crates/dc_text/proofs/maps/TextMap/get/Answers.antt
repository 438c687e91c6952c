use Rattle.std.proofs.Common.{sym, ap, ◌∙◌}
use Rattle.std.specs.Cmp.Lexicographic.{nat_list_cmp_total}
use Rattle.std.specs.FinMap as map
use Rattle.dc_text.proofs.MapLemmas.{find-seen}
use Rattle.dc_text.proofs.maps.TextMap.get.Goals as goal

pub returns : goal.returns
returns g c =
    c.get.ensures.value ∙ find-seen (λ k. k.items) c.self.inside.entries.entries c.args.key.now
    ∙ sym (map.get-from_entries nat_list_cmp_total _ c.args.key.now) ∙ ap (λ m. map.get m c.args.key.now) c.self.view_is
