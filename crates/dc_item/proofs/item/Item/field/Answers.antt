use Rattle.std.proofs.Common.{sym, ap, ◌∙◌}
use Rattle.std.specs.FinMap as map
use Rattle.dc_text.specs.Names.{is_field_key}
use Rattle.dc_text.specs.Settled.{is_settled}
use Rattle.dc_item.specs.Item.{ItemParts}
use Rattle.dc_item.specs.Sections.{section, fields_mark}
use Rattle.dc_item.proofs.ItemLemmas.{found_passes}
use Rattle.dc_item.proofs.SectionLemmas.{get-section}
use Rattle.dc_item.proofs.item.Item.field.Goals as goal

pub returns-clause-value : goal.returns-clause-value
returns-clause-value c =
    let key = c.args.key.now in
    c.get.ensures ∙ sym (get-section fields_mark c.self.inside.parts key) ∙ ap (λ (p : ItemParts). map.get p.fields key) c.self.view_is

pub returns-clause-settled : goal.returns-clause-settled
returns-clause-settled c =
    let key = c.args.key.now in
    found_passes is_field_key is_settled (section fields_mark c.self.inside.parts) key c.get.result (c.get.ensures ∙ sym (get-section fields_mark c.self.inside.parts key)) c.self.invariant.0.fields
