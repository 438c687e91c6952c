use Rattle.std.proofs.Common.{Err, ap, ◌∙◌, map as each}
use Rattle.dc_store.specs.declared.store.StoreError.{StoreError}
use Rattle.dc_store.specs.Plans.{StoreState, stored}
use Rattle.dc_question.specs.Readings.{kind_by}
use Rattle.dc_question.proofs.ChangeLemmas.{taken_does, refused_does, refusal_does}
use Rattle.dc_question.proofs.FrameLemmas.{same_asked}
use Rattle.dc_question.proofs.questions.Questions.change_by_kind.Goals as goal

pub returns-in-Ok-clause-does : goal.returns-in-Ok-clause-does
returns-in-Ok-clause-does g c =
    let old : StoreState = stored (each (λ b. (goal.Layer-dyn g (b.vtable, b.value)).state b.value) c.args.self.now.store.now.layers.items) c.args.self.now.store.now.told in
    let new : StoreState = stored (each (λ b. (goal.Layer-dyn g (b.vtable, b.value)).state b.value) c.write.new.self.store.now.layers.items) c.write.new.self.store.now.told in
    taken_does old c.args.self.now.context c.args.name.now c.in-Some.item.now c.kind-kind.result c.args.op.now c.in-Some.ensures (c.kind-kind.ensures ∙ ap kind_by c.template.ensures) new c.in-Ok.ensures.ok

pub returns-in-Err-clause-does : goal.returns-in-Err-clause-does
returns-in-Err-clause-does g c =
    let old : StoreState = stored (each (λ b. (goal.Layer-dyn g (b.vtable, b.value)).state b.value) c.args.self.now.store.now.layers.items) c.args.self.now.store.now.told in
    let new : StoreState = stored (each (λ b. (goal.Layer-dyn g (b.vtable, b.value)).state b.value) c.write.new.self.store.now.layers.items) c.write.new.self.store.now.told in
    refusal_does (Unit {0}) _ old new c.in-Err.error c.refusal.result c.args.name.now c.refusal.ensures.refused c.refusal.ensures.memory
    (λ e. refused_does old c.args.self.now.context c.args.name.now c.in-Some.item.now c.kind-kind.result c.args.op.now c.in-Some.ensures (c.kind-kind.ensures ∙ ap kind_by c.template.ensures)
    (c.write.ensures.refused (c.in-Err.is ∙ ap (λ (x : StoreError). Err x) e)))
    (λ e. c.write.ensures.unchanged (c.in-Err.is ∙ ap (λ (x : StoreError). Err x) e))

pub returns-in_err-copy-clause-frame : goal.returns-in_err-copy-clause-frame
returns-in_err-copy-clause-frame g c = same_asked _ _

pub returns-in_default-clause-frame : goal.returns-in_default-clause-frame
returns-in_default-clause-frame g c = same_asked _ _
