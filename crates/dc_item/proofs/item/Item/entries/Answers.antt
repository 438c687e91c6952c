use Rattle.std.proofs.Common.{ap, sym, ◌∙◌}
use Rattle.std.specs.FinMap as map
use Rattle.dc_item.specs.Item.{ItemParts}
use Rattle.dc_item.specs.Sections.{under, keys_under, fields_mark, owners_mark, flags_mark, variables_mark}
use Rattle.dc_item.proofs.SectionLemmas.{entries-section, keys-members}
use Rattle.dc_item.proofs.item.Item.entries.Goals as goal

pub returns-clause-fields : goal.returns-clause-fields
returns-clause-fields c =
    ap (under fields_mark) c.in_ok-entries.ensures ∙ sym (entries-section fields_mark c.self.inside.parts) ∙ ap (λ (p : ItemParts). map.entries p.fields) c.self.view_is

pub returns-clause-owners : goal.returns-clause-owners
returns-clause-owners c =
    ap (keys_under owners_mark) c.in_ok-entries.ensures ∙ sym (keys-members owners_mark c.self.inside.parts) ∙ ap (λ (p : ItemParts). map.keys p.owners) c.self.view_is

pub returns-clause-flags : goal.returns-clause-flags
returns-clause-flags c =
    ap (keys_under flags_mark) c.in_ok-entries.ensures ∙ sym (keys-members flags_mark c.self.inside.parts) ∙ ap (λ (p : ItemParts). map.keys p.flags) c.self.view_is

pub returns-clause-variables : goal.returns-clause-variables
returns-clause-variables c =
    ap (under variables_mark) c.in_ok-entries.ensures ∙ sym (entries-section variables_mark c.self.inside.parts) ∙ ap (λ (p : ItemParts). map.entries p.variables) c.self.view_is
