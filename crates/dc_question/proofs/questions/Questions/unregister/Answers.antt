use Rattle.std.proofs.Common.{[], ◌∷◌, map as each, sym, ap, ◌∙◌}
use Rattle.dc_store.specs.Plans.{StoreState, stored}
use Rattle.dc_question.specs.Changes.{batch_for}
use Rattle.dc_question.specs.Ownership.{leave_batch}
use Rattle.dc_question.specs.Questions.{question}
use Rattle.dc_question.proofs.BindLemmas.{does_same}
use Rattle.dc_question.proofs.LeaveLemmas.{read_there}
use Rattle.dc_question.proofs.FrameLemmas.{all_same_asked}
use Rattle.dc_question.proofs.questions.Questions.unregister.Goals as goal

pub returns-clause-does : goal.returns-clause-does
returns-clause-does g c =
    let old : StoreState = stored (each (λ b. (goal.Layer-dyn g (b.vtable, b.value)).state b.value) c.args.self.now.store.now.layers.items) c.args.self.now.store.now.told in
    does_same c.leave.result old _ _ _
    (ap (λ ns. batch_for old ns (leave_batch old.layers c.args.self.now.context c.args.owner.now ns)) (c.as_slice.ensures ∙ c.in_ok-names.ensures)
    ∙ read_there c.args.name.now (question old.layers c.args.self.now.context c.args.name.now) (batch_for old (c.args.name.now ∷ []) (leave_batch old.layers c.args.self.now.context c.args.owner.now (c.args.name.now ∷ [])))
    (sym c.exists.ensures ∙ c.if-not-exists.false))
    c.leave.ensures.does

pub returns-in_err-copy-clause-frame : goal.returns-in_err-copy-clause-frame
returns-in_err-copy-clause-frame g c = all_same_asked _ _

pub returns-then-not-exists-clause-frame : goal.returns-then-not-exists-clause-frame
returns-then-not-exists-clause-frame g c = all_same_asked _ _

pub returns-in_err-names-clause-frame : goal.returns-in_err-names-clause-frame
returns-in_err-names-clause-frame g c = all_same_asked _ _
