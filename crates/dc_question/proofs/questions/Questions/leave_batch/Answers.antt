use Rattle.std.proofs.Common.{length, map as each, sym, subst, ap, ◌++◌, ◌∙◌}
use Rattle.std.specs.FinMap.{empty}
use Rattle.dc_question.specs.KindsLeft.{with_kinds}
use Rattle.dc_question.specs.Losses.{grouped, losses_of}
use Rattle.dc_store.specs.Batches.{AreOver}
use Rattle.dc_question.proofs.LeaveLemmas.{losses_made, losses_over, row_left}
use Rattle.dc_question.proofs.questions.Questions.leave_batch.Goals as goal

pub kinds_left-requires-clause-batch : goal.kinds_left-requires-clause-batch
kinds_left-requires-clause-batch g c =
    let layers = each (λ b. (goal.Layer-dyn g (b.vtable, b.value)).state b.value) c.args.self.now.store.now.layers.items in
    let lost = losses_made layers c.args.self.now.context c.args.owner.now c.args.names.now c.in_ok-pairs.pairs c.in_ok-groups.groups c.in_ok-losses.losses c.in_ok-pairs.ensures
    (c.in_ok-groups.ensures ∙ ap grouped c.as_slice.ensures) (c.in_ok-losses.ensures ∙ ap (losses_of layers c.args.self.now.context) c.as_slice-2.ensures) in
    subst (λ batch. AreOver batch (length c.args.self.now.store.now.layers.items)) (sym (c.as_slice-3.ensures ∙ lost))
    (losses_over layers c.args.self.now.context c.args.owner.now c.args.names.now (length c.args.self.now.store.now.layers.items) c.requires.over)

pub returns : goal.returns
returns g c =
    let layers = each (λ b. (goal.Layer-dyn g (b.vtable, b.value)).state b.value) c.args.self.now.store.now.layers.items in
    let lost = losses_made layers c.args.self.now.context c.args.owner.now c.args.names.now c.in_ok-pairs.pairs c.in_ok-groups.groups c.in_ok-losses.losses c.in_ok-pairs.ensures
    (c.in_ok-groups.ensures ∙ ap grouped c.as_slice.ensures) (c.in_ok-losses.ensures ∙ ap (losses_of layers c.args.self.now.context) c.as_slice-2.ensures) in
    row_left layers c.args.self.now.context c.args.owner.now c.args.names.now c.in_ok-kinds.kinds c.in_ok-losses.losses c.in_ok-batch.batch _
    lost (c.in_ok-kinds.ensures ∙ ap (with_kinds layers c.args.self.now.context empty) c.as_slice-3.ensures) c.in_ok-batch.ensures
    (c.in_ok-add_losses.ensures
    ∙ ap (λ l. c.in_ok-batch.batch ++ l) (ap (losses_of layers c.args.self.now.context) (c.as_slice-4.ensures ∙ sym c.as_slice-2.ensures) ∙ sym c.in_ok-losses.ensures))
