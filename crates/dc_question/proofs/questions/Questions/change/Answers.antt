use Rattle.std.proofs.Common.{map as each, subst}
use Rattle.dc_store.specs.Plans.{StoreState, stored}
use Rattle.dc_question.specs.Changes.{changed, Does}
use Rattle.dc_question.proofs.ChangeLemmas.{any_does}
use Rattle.dc_question.proofs.FrameLemmas.{same_asked_then}
use Rattle.dc_question.proofs.questions.Questions.change.Goals as goal

pub returns-in-Ok-true-clause-does : goal.returns-in-Ok-true-clause-does
returns-in-Ok-true-clause-does g c =
    let old : StoreState = stored (each (λ b. (goal.Layer-dyn g (b.vtable, b.value)).state b.value) c.args.self.now.store.now.layers.items) c.args.self.now.store.now.told in
    let new : StoreState = stored (each (λ b. (goal.Layer-dyn g (b.vtable, b.value)).state b.value) c.change_on_top.new.self.store.now.layers.items) c.change_on_top.new.self.store.now.told in
    any_does old new c.args.self.now.context c.args.name.now c.args.op.now (c.in-Ok-true.ensures.there cc) (c.in-Ok-true.ensures.done cc)

pub returns-in-Ok-false-clause-does : goal.returns-in-Ok-false-clause-does
returns-in-Ok-false-clause-does g c =
    let between : StoreState = stored (each (λ b. (goal.Layer-dyn g (b.vtable, b.value)).state b.value) c.change_on_top.new.self.store.now.layers.items) c.change_on_top.new.self.store.now.told in
    let new : StoreState = stored (each (λ b. (goal.Layer-dyn g (b.vtable, b.value)).state b.value) c.change_by_kind.new.self.store.now.layers.items) c.change_by_kind.new.self.store.now.told in
    subst (λ s. Does c.change_by_kind.result (changed s c.args.self.now.context c.args.name.now c.args.op.now) s new) (c.in-Ok-false.ensures.not_done cc)
    (subst (λ at. Does c.change_by_kind.result (changed between at c.args.name.now c.args.op.now) between new) c.in-Ok-false.ensures.frame.context c.change_by_kind.ensures.does)

pub returns-in-Ok-false-clause-frame : goal.returns-in-Ok-false-clause-frame
returns-in-Ok-false-clause-frame g c = same_asked_then c.args.name.now _ _ _ c.in-Ok-false.ensures.frame c.change_by_kind.ensures.frame
