use Rattle.std.proofs.Common.{◌≡◌, map as each, ap, subst, ◌∙◌}
use Rattle.std.specs.Prelude.{IfOk}
use Rattle.dc_run.specs.Inside.{context_by}
use Rattle.dc_run.specs.Jobs.{answers_said}
use Rattle.dc_run.specs.Roots.{shaped}
use Rattle.dc_run.proofs.ShowLemmas.{was_printed}
use Rattle.dc_run.proofs.saying_answers.say_answers.Goals as goal

pub returns-clause-printed : goal.returns-clause-printed
returns-clause-printed g c =
    was_printed c.all_answers-answers.result _ _ _ _ _ c.args.last_code c.print_answers.result
    (subst (λ boxes. IfOk c.all_answers-answers.result (λ said. said ≡ answers_said (each (λ b. (goal.Layer-dyn g (b.vtable, b.value)).state b.value) boxes) (context_by (shaped c.args.roots.now) c.args.lang.now)))
    (c.new-store.ensures.layers ∙ ap (λ v. v.items) c.replace.ensures.value) c.all_answers-answers.ensures.said)
    c.print_answers.ensures
