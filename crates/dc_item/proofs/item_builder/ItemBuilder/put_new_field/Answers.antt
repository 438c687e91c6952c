use Rattle.std.proofs.Common.{◌≡◌, ◌∷◌, cond, sym, ap, ◌∙◌}
use Rattle.std.specs.Prelude.{not, is_some}
use Rattle.std.specs.FinMap as map
use Rattle.dc_item.specs.Item.{ItemParts}
use Rattle.dc_item.specs.Sections.{fields_mark}
use Rattle.dc_item.proofs.SectionLemmas.{get-section}
use Rattle.dc_item.proofs.PartLemmas.{put_new_field, with_new_field}
use Rattle.dc_item.proofs.item_builder.ItemBuilder.put_new_field.Goals as goal

pub invariant_of-self-2 : goal.invariant_of-self-2
invariant_of-self-2 c =
    let is_new = c.in_ok-is_new.is_new in
    let put : c.insert_new.new.self ≡ cond is_new (map.insert c.self.inside.parts (fields_mark ∷ c.args.key.now) c.args.value.now) c.self.inside.parts
    = c.in_ok-is_new.ensures.put in
    with_new_field is_new c.self.inside.parts c.insert_new.new.self c.args.key.now c.args.value.now c.self.invariant put c.requires.key c.requires.value

pub returns-clause-new : goal.returns-clause-new
returns-clause-new c =
    let key = c.args.key.now in
    c.in_ok-is_new.ensures.new
    ∙ ap (λ o. not (is_some o)) (sym (get-section fields_mark c.self.inside.parts key) ∙ ap (λ (p : ItemParts). map.get p.fields key) c.self.view_is)

pub returns-clause-put : goal.returns-clause-put
returns-clause-put c =
    let is_new = c.in_ok-is_new.is_new in
    let put : c.insert_new.new.self ≡ cond is_new (map.insert c.self.inside.parts (fields_mark ∷ c.args.key.now) c.args.value.now) c.self.inside.parts
    = c.in_ok-is_new.ensures.put in
    put_new_field is_new c.self.inside.parts c.insert_new.new.self c.args.key.now c.args.value.now c.args.self.now c.self.view_is put
