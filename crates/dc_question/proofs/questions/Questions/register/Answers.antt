use Rattle.std.proofs.Common.{map as each}
use Rattle.dc_store.specs.Plans.{StoreState, stored}
use Rattle.dc_question.proofs.BindLemmas.{registers, does_same}
use Rattle.dc_question.proofs.FrameLemmas.{all_same_asked}
use Rattle.dc_question.proofs.questions.Questions.register.Goals as goal

pub returns-clause-does : goal.returns-clause-does
returns-clause-does g c =
    let old : StoreState = stored (each (λ b. (goal.Layer-dyn g (b.vtable, b.value)).state b.value) c.args.self.now.store.now.layers.items) c.args.self.now.store.now.told in
    does_same c.bind.result old _ _ _
    (registers old c.args.self.now.context c.args.template.now c.args.name.now c.args.owner.now c.in-Some.template c.in_ok-template.field-0 _ c.has_other_template.result
    c.in_ok-template.ensures c.in-Some.is c.question.ensures c.has_other_template.ensures c.if-has_other_template.false)
    c.bind.ensures.does

pub returns-in_err-template-clause-frame : goal.returns-in_err-template-clause-frame
returns-in_err-template-clause-frame g c = all_same_asked _ _

pub returns-in_err-copy-clause-frame : goal.returns-in_err-copy-clause-frame
returns-in_err-copy-clause-frame g c = all_same_asked _ _

pub returns-in_default-clause-frame : goal.returns-in_default-clause-frame
returns-in_default-clause-frame g c = all_same_asked _ _

pub returns-in_err-copy-2-clause-frame : goal.returns-in_err-copy-2-clause-frame
returns-in_err-copy-2-clause-frame g c = all_same_asked _ _

pub returns-then-has_other_template-clause-frame : goal.returns-then-has_other_template-clause-frame
returns-then-has_other_template-clause-frame g c = all_same_asked _ _
