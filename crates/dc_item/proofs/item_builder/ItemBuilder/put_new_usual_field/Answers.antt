use Rattle.std.proofs.Common.{◌≡◌, ◌∷◌, cond, sym, ap, ◌∙◌}
use Rattle.std.specs.Prelude.{not, is_some}
use Rattle.std.specs.FinMap as map
use Rattle.dc_parts.specs.Usual.{usual_name}
use Rattle.dc_item.specs.Item.{ItemParts}
use Rattle.dc_item.specs.Sections.{fields_mark}
use Rattle.dc_item.proofs.SectionLemmas.{get-section}
use Rattle.dc_item.proofs.PartLemmas.{put_new_field, with_new_field, usual_is_key}
use Rattle.dc_item.proofs.item_builder.ItemBuilder.put_new_usual_field.Goals as goal

pub invariant_of-self-2 : goal.invariant_of-self-2
invariant_of-self-2 c =
    let is_new = c.in_ok-is_new.is_new in
    let key = usual_name c.args.key in
    let put : c.insert_new_usual.new.self ≡ cond is_new (map.insert c.self.inside.parts (fields_mark ∷ key) c.args.value.now) c.self.inside.parts
    = c.in_ok-is_new.ensures.put in
    with_new_field is_new c.self.inside.parts c.insert_new_usual.new.self key c.args.value.now c.self.invariant put (usual_is_key c.args.key) c.requires

pub returns-clause-new : goal.returns-clause-new
returns-clause-new c =
    let key = usual_name c.args.key in
    c.in_ok-is_new.ensures.new
    ∙ ap (λ o. not (is_some o)) (sym (get-section fields_mark c.self.inside.parts key) ∙ ap (λ (p : ItemParts). map.get p.fields key) c.self.view_is)

pub returns-clause-put : goal.returns-clause-put
returns-clause-put c =
    let is_new = c.in_ok-is_new.is_new in
    let key = usual_name c.args.key in
    let put : c.insert_new_usual.new.self ≡ cond is_new (map.insert c.self.inside.parts (fields_mark ∷ key) c.args.value.now) c.self.inside.parts
    = c.in_ok-is_new.ensures.put in
    put_new_field is_new c.self.inside.parts c.insert_new_usual.new.self key c.args.value.now c.args.self.now c.self.view_is put
