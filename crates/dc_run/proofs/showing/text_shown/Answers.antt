use Rattle.std.proofs.Common.{map as each, ap}
use Rattle.dc_run.proofs.ShowLemmas.{shown_questions}
use Rattle.dc_run.proofs.showing.text_shown.Goals as goal

pub returns-in-Questions-clause-text : goal.returns-in-Questions-clause-text
returns-in-Questions-clause-text g c =
    shown_questions c.args.shown.now _ c.args.roots.now.conf _ _ _ _ c.questions_text-text.result c.in-Questions.is
    (ap (λ s. each (λ b. (goal.Layer-dyn g (b.vtable, b.value)).state b.value) s.layers.items) c.new-questions.ensures.store) c.new-questions.ensures.context c.questions_text-text.ensures
