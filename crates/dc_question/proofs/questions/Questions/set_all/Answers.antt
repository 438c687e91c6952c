use Rattle.std.proofs.Common.{length, map as each, sym, ap, subst, ◌∙◌}
use Rattle.dc_store.specs.Batches.{AreOver, AllDistinct, names_of}
use Rattle.dc_question.proofs.AnswerLemmas.{values_over, values_distinct, names_written}
use Rattle.dc_question.proofs.BindLemmas.{does_row}
use Rattle.dc_question.proofs.FrameLemmas.{all_same_asked, same_named}
use Rattle.dc_question.proofs.questions.Questions.set_all.Goals as goal

pub do_batch-requires-clause-over : goal.do_batch-requires-clause-over
do_batch-requires-clause-over g c =
    let layers = each (λ b. (goal.Layer-dyn g (b.vtable, b.value)).state b.value) c.args.self.now.store.now.layers.items in
    subst (λ batch. AreOver batch (length c.args.self.now.store.now.layers.items)) (sym c.in_ok-batch.ensures)
    (values_over layers c.args.self.now.context c.args.answers.now (length c.args.self.now.store.now.layers.items) c.requires.over)

pub do_batch-requires-clause-distinct : goal.do_batch-requires-clause-distinct
do_batch-requires-clause-distinct g c =
    let layers = each (λ b. (goal.Layer-dyn g (b.vtable, b.value)).state b.value) c.args.self.now.store.now.layers.items in
    subst AllDistinct (sym c.in_ok-batch.ensures) (values_distinct layers c.args.self.now.context c.args.answers.now c.requires.names)

pub returns-clause-does : goal.returns-clause-does
returns-clause-does g c =
    does_row c.do_batch.result _ _ _ _ _ _ (c.as_slice.ensures ∙ c.in_ok-names.ensures) c.in_ok-batch.ensures c.do_batch.ensures.does

pub returns-clause-frame : goal.returns-clause-frame
returns-clause-frame g c =
    let layers = each (λ b. (goal.Layer-dyn g (b.vtable, b.value)).state b.value) c.args.self.now.store.now.layers.items in
    same_named _ _ _ _ (ap names_of c.in_ok-batch.ensures ∙ names_written layers c.args.self.now.context c.args.answers.now) c.do_batch.ensures.frame

pub returns-in_err-batch-clause-frame : goal.returns-in_err-batch-clause-frame
returns-in_err-batch-clause-frame g c = all_same_asked _ _

pub returns-in_err-names-clause-frame : goal.returns-in_err-names-clause-frame
returns-in_err-names-clause-frame g c = all_same_asked _ _
