use Rattle.std.proofs.Common.{◌≡◌, Some, [], ◌∷◌, map as each, sym, ap, subst, ◌∙◌}
use Rattle.std.specs.Option.{option_copied}
use Rattle.dc_item.specs.declared.op.Op.TheVariants.{Put}
use Rattle.dc_store.specs.Plans.{look}
use Rattle.dc_question.specs.Ownership.{template_write, loaded_template}
use Rattle.dc_question.proofs.LoadLemmas.{put_made}
use Rattle.dc_question.proofs.questions.Questions.put_write.Goals as goal

pub returns-clause-write : goal.returns-clause-write
returns-clause-write g c =
    let layers = each (λ b. (goal.Layer-dyn g (b.vtable, b.value)).state b.value) c.args.self.now.store.now.layers.items in
    let t = c.args.template.now in
    let put = loaded_template t (look layers c.args.self.now.context.templates t.name) in
    subst (λ s. record { plan = s.context.templates; name = c.in_ok-copy.field-0; kind = Some c.kind.result; op = Put c.in_ok-item.item; reported_for = c.in_ok-copy.field-0 ∷ [] }
    ≡ template_write layers c.args.self.now.context t.name (Put put) (t.name ∷ []))
    (sym c.self.view_is)
    (put_made layers c.args.self.now.context t (option_copied c.named_template-old.result) c.in_ok-item.item c.in_ok-copy.field-0 c.kind.result
    (c.named_template-old.ensures ∙ ap (look layers c.args.self.now.context.templates) (c.bytes.ensures.value ∙ c.name-name.ensures))
    c.in_ok-item.ensures.item c.in_ok-item.ensures.kind (c.in_ok-copy.ensures ∙ c.name-name.ensures) c.kind.ensures)
