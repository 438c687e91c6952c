use Rattle.std.proofs.Common.{ℕ, List, [], map as each, ap, ◌∙◌}
use Rattle.std.specs.Result.{result_unwrap_or}
use Rattle.dc_question.specs.Questions.{expanded_field}
use Rattle.dc_question.specs.declared.choices.ChoicePair.{ChoicePair}
use Rattle.dc_session.proofs.session.Session.shown.Goals as goal

pub returns : goal.returns
returns g c =
    let layers = each (λ b. (goal.Layer-dyn g (b.vtable, b.value)).state b.value) c.args.self.now.desk.questions.store.now.layers.items in
    let field : List ℕ → List ℕ = λ key. result_unwrap_or (expanded_field layers c.args.self.now.desk.questions.context c.args.name.now key) [] in
    let named = c.in_ok-copy.ensures in
    let description = c.description.view_is ∙ c.in_ok-description.ensures ∙ ap field c.in_ok-known.ensures in
    let extended = c.extended.view_is ∙ c.in_ok-extended.ensures ∙ ap field c.in_ok-known-2.ensures in
    let plain = c.plain.view_is ∙ ap (λ (pair : ChoicePair). pair.plain) c.in_ok-plain.ensures in
    let labels = c.labels.view_is ∙ ap (λ (pair : ChoicePair). pair.labels) c.in_ok-plain.ensures in
    let value = c.in_ok-value.ensures in
    λ i. record { name = named i; kind = c.args.kind; description = description i; extended = extended i; choices = plain i; labels = labels i; value = value i }
