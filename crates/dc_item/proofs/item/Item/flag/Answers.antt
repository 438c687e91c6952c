use Rattle.std.proofs.Common.{sym, ap, ◌∙◌}
use Rattle.std.specs.FinMap as map
use Rattle.dc_item.specs.Item.{ItemParts}
use Rattle.dc_item.specs.Sections.{flags_mark}
use Rattle.dc_item.proofs.SectionLemmas.{contains_key-members}
use Rattle.dc_item.proofs.item.Item.flag.Goals as goal

pub returns : goal.returns
returns c =
    let key = c.args.flag.now in
    c.contains.ensures ∙ sym (contains_key-members flags_mark c.self.inside.parts key) ∙ ap (λ (p : ItemParts). map.contains_key p.flags key) c.self.view_is
