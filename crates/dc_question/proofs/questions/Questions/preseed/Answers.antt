use Rattle.std.proofs.Common.{◌≡◌, length, map as each, sym, subst}
use Rattle.std.specs.List.{All}
use Rattle.dc_item.specs.declared.op.Op.TheVariants.{Put}
use Rattle.dc_store.specs.Batches.{AreOver, AllDistinct, names_of}
use Rattle.dc_question.specs.Preseeding.{answered, is_known}
use Rattle.dc_question.specs.Questions.{question}
use Rattle.dc_question.proofs.BindLemmas.{does_row}
use Rattle.dc_question.proofs.FrameLemmas.{same_asked, one_named}
use Rattle.dc_question.proofs.PreseedLemmas.{row_over, row_distinct, row_names}
use Rattle.dc_question.proofs.questions.Questions.preseed.Goals as goal

pub do_batch-requires-clause-over : goal.do_batch-requires-clause-over
do_batch-requires-clause-over g c =
    let layers = each (λ b. (goal.Layer-dyn g (b.vtable, b.value)).state b.value) c.args.self.now.store.now.layers.items in
    let at = c.args.self.now.context in
    let op = Put (answered (question layers at c.args.name.now) c.args.owner.now c.args.name.now c.args.value.now c.args.unseen) in
    let count = length c.args.self.now.store.now.layers.items in
    subst (λ batch. AreOver batch count) (sym c.in_ok-batch.ensures) (row_over layers at c.args.name.now c.args.kind op (is_known layers at c.args.name.now) count c.requires.over)

pub do_batch-requires-clause-distinct : goal.do_batch-requires-clause-distinct
do_batch-requires-clause-distinct g c =
    let layers = each (λ b. (goal.Layer-dyn g (b.vtable, b.value)).state b.value) c.args.self.now.store.now.layers.items in
    let at = c.args.self.now.context in
    let op = Put (answered (question layers at c.args.name.now) c.args.owner.now c.args.name.now c.args.value.now c.args.unseen) in
    subst AllDistinct (sym c.in_ok-batch.ensures) (row_distinct layers at c.args.name.now c.args.kind op (is_known layers at c.args.name.now) c.requires.apart)

pub returns-clause-does : goal.returns-clause-does
returns-clause-does g c = does_row c.do_batch.result _ _ _ _ _ _ c.from_ref.ensures.value c.in_ok-batch.ensures c.do_batch.ensures.does

pub returns-clause-frame : goal.returns-clause-frame
returns-clause-frame g c =
    let layers = each (λ b. (goal.Layer-dyn g (b.vtable, b.value)).state b.value) c.args.self.now.store.now.layers.items in
    let at = c.args.self.now.context in
    let op = Put (answered (question layers at c.args.name.now) c.args.owner.now c.args.name.now c.args.value.now c.args.unseen) in
    one_named c.args.name.now _ _ _
    (subst (λ batch. All (λ n. n ≡ c.args.name.now) (names_of batch)) (sym c.in_ok-batch.ensures) (row_names layers at c.args.name.now c.args.kind op (is_known layers at c.args.name.now)))
    c.do_batch.ensures.frame

pub returns-in_err-batch-clause-frame : goal.returns-in_err-batch-clause-frame
returns-in_err-batch-clause-frame g c = same_asked _ _
