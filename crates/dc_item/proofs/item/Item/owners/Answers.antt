use Rattle.std.proofs.Common.{ap, sym, ◌∙◌}
use Rattle.std.specs.FinMap as map
use Rattle.dc_item.specs.Item.{ItemParts}
use Rattle.dc_item.specs.Sections.{keys_under, owners_mark}
use Rattle.dc_item.proofs.SectionLemmas.{keys-members}
use Rattle.dc_item.proofs.item.Item.owners.Goals as goal

pub returns-clause-owners : goal.returns-clause-owners
returns-clause-owners c =
    c.among.ensures ∙ ap (keys_under owners_mark) c.iter.ensures
    ∙ sym (keys-members owners_mark c.self.inside.parts) ∙ ap (λ (p : ItemParts). map.keys p.owners) c.self.view_is
