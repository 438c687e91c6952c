use Rattle.std.proofs.Common.{◌≡◌, ◌∷◌, ◌∙◌}
use Rattle.std.specs.FinMap as map
use Rattle.dc_item.specs.Sections.{variables_mark}
use Rattle.dc_item.proofs.PartLemmas.{put_variable, with_variable}
use Rattle.dc_item.proofs.item.Item.put_variable.Goals as goal

pub invariant_of-self-2 : goal.invariant_of-self-2
invariant_of-self-2 c =
    let put : c.insert.new.self ≡ map.insert c.self.inside.parts (variables_mark ∷ c.args.key.now) c.args.value.now
    = c.in_ok-insert.ensures.ok ∙ (λ i. map.insert c.self.inside.parts (variables_mark ∷ c.bytes.ensures.value i) (c.bytes-2.ensures.value i)) in
    with_variable c.self.inside.parts c.insert.new.self c.args.key.now c.args.value.now c.self.invariant put c.bytes.ensures.key c.bytes-2.ensures.settled

pub returns-clause-ok : goal.returns-clause-ok
returns-clause-ok c =
    let put : c.insert.new.self ≡ map.insert c.self.inside.parts (variables_mark ∷ c.args.key.now) c.args.value.now
    = c.in_ok-insert.ensures.ok ∙ (λ i. map.insert c.self.inside.parts (variables_mark ∷ c.bytes.ensures.value i) (c.bytes-2.ensures.value i)) in
    put_variable c.self.inside.parts c.insert.new.self c.args.key.now c.args.value.now c.args.self.now c.self.view_is put
