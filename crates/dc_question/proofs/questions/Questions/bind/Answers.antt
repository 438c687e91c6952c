use Rattle.std.proofs.Common.{map as each, ap, ◌∙◌}
use Rattle.dc_item.specs.declared.op.Op.TheVariants.{AddOwner}
use Rattle.dc_question.specs.Ownership.{bind_batch}
use Rattle.dc_question.proofs.BindLemmas.{bound_distinct, does_row}
use Rattle.dc_question.proofs.FrameLemmas.{all_same_asked}
use Rattle.dc_question.proofs.questions.Questions.bind.Goals as goal

pub do_batch-requires-clause-distinct : goal.do_batch-requires-clause-distinct
do_batch-requires-clause-distinct g c =
    bound_distinct _ c.args.self.now.context c.args.template.now c.args.name.now c.args.owner.now (AddOwner c.in_ok-copy.field-0) _ c.requires.apart c.in_ok-batch.ensures

pub returns-clause-does : goal.returns-clause-does
returns-clause-does g c =
    let layers = each (λ b. (goal.Layer-dyn g (b.vtable, b.value)).state b.value) c.args.self.now.store.now.layers.items in
    does_row c.do_batch.result _ _ _ _ _ _
    (c.as_slice.ensures ∙ c.in_ok-names.ensures)
    (c.in_ok-batch.ensures ∙ ap (λ n. bind_batch layers c.args.self.now.context c.args.template.now (AddOwner n) c.args.name.now c.args.owner.now) c.in_ok-copy.ensures)
    c.do_batch.ensures.does

pub returns-in_err-copy-clause-frame : goal.returns-in_err-copy-clause-frame
returns-in_err-copy-clause-frame g c = all_same_asked _ _

pub returns-in_err-batch-clause-frame : goal.returns-in_err-batch-clause-frame
returns-in_err-batch-clause-frame g c = all_same_asked _ _

pub returns-in_err-names-clause-frame : goal.returns-in_err-names-clause-frame
returns-in_err-names-clause-frame g c = all_same_asked _ _
