use Rattle.std.proofs.Common.{map as each, sym, subst, ◌∙◌}
use Rattle.dc_text.specs.Maps.{AreDistinct}
use Rattle.dc_question.proofs.LeaveLemmas.{owned_differ}
use Rattle.dc_question.proofs.FrameLemmas.{all_same_asked}
use Rattle.dc_question.proofs.questions.Questions.purge.Goals as goal

pub leave-requires-clause-names : goal.leave-requires-clause-names
leave-requires-clause-names g c =
    let layers = each (λ b. (goal.Layer-dyn g (b.vtable, b.value)).state b.value) c.args.self.now.store.now.layers.items in
    subst AreDistinct (sym (c.as_slice.ensures ∙ c.in_ok-names.ensures)) (owned_differ layers c.args.self.now.context c.args.owner.now)

pub returns-in_err-names-clause-frame : goal.returns-in_err-names-clause-frame
returns-in_err-names-clause-frame g c = all_same_asked _ _
