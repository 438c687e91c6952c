use Rattle.std.proofs.Common.{length, map as each, sym, subst, refl}
use Rattle.dc_store.specs.Batches.{AreOver, AllDistinct}
use Rattle.dc_question.proofs.BindLemmas.{does_row}
use Rattle.dc_question.proofs.LoadLemmas.{load_over, load_distinct}
use Rattle.dc_question.proofs.FrameLemmas.{all_same_asked}
use Rattle.dc_question.proofs.questions.Questions.load.Goals as goal

pub do_load-requires-clause-over : goal.do_load-requires-clause-over
do_load-requires-clause-over g c =
    let layers = each (λ b. (goal.Layer-dyn g (b.vtable, b.value)).state b.value) c.args.self.now.store.now.layers.items in
    subst (λ batch. AreOver batch (length c.args.self.now.store.now.layers.items)) (sym c.in_ok-batch.ensures)
    (load_over layers c.args.self.now.context c.args.owner.now c.args.list.now (length c.args.self.now.store.now.layers.items) c.requires.over)

pub do_load-requires-clause-distinct : goal.do_load-requires-clause-distinct
do_load-requires-clause-distinct g c =
    let layers = each (λ b. (goal.Layer-dyn g (b.vtable, b.value)).state b.value) c.args.self.now.store.now.layers.items in
    subst AllDistinct (sym c.in_ok-batch.ensures) (load_distinct layers c.args.self.now.context c.args.owner.now c.args.list.now c.requires.apart c.requires.names)

pub returns-clause-does : goal.returns-clause-does
returns-clause-does g c = does_row c.do_load.result _ _ _ _ _ _ refl c.in_ok-batch.ensures c.do_load.ensures.does

pub returns-in_err-batch-clause-frame : goal.returns-in_err-batch-clause-frame
returns-in_err-batch-clause-frame g c = all_same_asked _ _
