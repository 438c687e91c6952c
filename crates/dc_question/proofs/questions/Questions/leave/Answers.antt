use Rattle.std.proofs.Common.{length, map as each, sym, subst}
use Rattle.dc_store.specs.Batches.{AreOver, AllDistinct}
use Rattle.dc_question.proofs.LeaveLemmas.{row_over, row_distinct}
use Rattle.dc_question.proofs.FrameLemmas.{all_same_asked}
use Rattle.dc_question.proofs.questions.Questions.leave.Goals as goal

pub do_batch-requires-clause-over : goal.do_batch-requires-clause-over
do_batch-requires-clause-over g c =
    let layers = each (λ b. (goal.Layer-dyn g (b.vtable, b.value)).state b.value) c.args.self.now.store.now.layers.items in
    subst (λ batch. AreOver batch (length c.args.self.now.store.now.layers.items)) (sym c.in_ok-batch.ensures)
    (row_over layers c.args.self.now.context c.args.owner.now c.args.names.now (length c.args.self.now.store.now.layers.items) c.requires.over)

pub do_batch-requires-clause-distinct : goal.do_batch-requires-clause-distinct
do_batch-requires-clause-distinct g c =
    let layers = each (λ b. (goal.Layer-dyn g (b.vtable, b.value)).state b.value) c.args.self.now.store.now.layers.items in
    subst AllDistinct (sym c.in_ok-batch.ensures) (row_distinct layers c.args.self.now.context c.args.owner.now c.args.names.now c.requires.apart c.requires.names)

pub returns-in_err-batch-clause-frame : goal.returns-in_err-batch-clause-frame
returns-in_err-batch-clause-frame g c = all_same_asked _ _
