use Rattle.std.proofs.Common.{ℕ, List, [], Option, ap, sym, subst, ◌∙◌, map as each}
use Rattle.std.specs.Prelude.{option_map}
use Rattle.std.specs.List.{filter_map}
use Rattle.std.proofs.lemmas.Result.{err_from_is_err_and}
use Rattle.dc_text.specs.Maps.{AreDistinct}
use Rattle.dc_frontend.specs.declared.shown.Shown.{Shown}
use Rattle.dc_question.specs.Questions.{kind}
use Rattle.dc_teletype.specs.declared.teletype.Asked.TheVariants.{Answers, Back}
use Rattle.dc_session.specs.Asking.{shown, to_show}
use Rattle.dc_session.specs.contracts.session.SessionLineMachine.TheImpl.{ghosts}
use Rattle.dc_session.proofs.CallLemmas.{comes_asking}
use Rattle.dc_session.proofs.GoLemmas.{fixed_does, held_does, stops_does, shown_distinct}
use Rattle.dc_session.proofs.session.Session.ask_prepared.Goals as goal

pub returns-in-Some-clause-does : goal.returns-in-Some-clause-does
returns-in-Some-clause-does g c =
    let fixed = rw (c.in-Some.is, c.as_slice.ensures ∙ c.in_ok-prepared.ensures.names) at c.in_ok-name.ensures in
    rw c.lifted.ensures (fixed_does _ c.requires.asks c.in-Some.name.now (sym fixed) c.unchangeable.result (rw c.bytes.ensures.value at c.unchangeable.ensures))

pub returns-in_err-hold-clause-does : goal.returns-in_err-hold-clause-does
returns-in_err-hold-clause-does g c =
    let layers = each (λ b. (goal.Layer-dyn g (b.vtable, b.value)).state b.value) c.args.self.now.desk.questions.store.now.layers.items in
    let at = c.args.self.now.desk.questions.context in
    let pick : List ℕ → Option Shown = λ name. option_map (shown layers at name) (kind layers at name) in
    let are = c.in_ok-questions.ensures ∙ ap (filter_map pick) (c.as_slice-2.ensures ∙ c.in_ok-prepared.ensures.names) in
    let none = rw (c.in_default.is, c.as_slice.ensures ∙ c.in_ok-prepared.ensures.names) at c.in_ok-name.ensures in
    let left = err_from_is_err_and c.from_residual-in_err-hold.result c.from_residual-in_err-hold.ensures.1 in
    rw (left.1, left.2) (stops_does _ c.requires.asks (sym none) _ c.in_err-hold.field-0.0 (rw are at c.in_err-hold.ensures.asks))

pub returns-in-Back-clause-does : goal.returns-in-Back-clause-does
returns-in-Back-clause-does g c =
    let layers = each (λ b. (goal.Layer-dyn g (b.vtable, b.value)).state b.value) c.args.self.now.desk.questions.store.now.layers.items in
    let at = c.args.self.now.desk.questions.context in
    let pick : List ℕ → Option Shown = λ name. option_map (shown layers at name) (kind layers at name) in
    let are = c.in_ok-questions.ensures ∙ ap (filter_map pick) (c.as_slice-2.ensures ∙ c.in_ok-prepared.ensures.names) in
    let none = rw (c.in_default.is, c.as_slice.ensures ∙ c.in_ok-prepared.ensures.names) at c.in_ok-name.ensures in
    let session = ghosts g.row.F g.row.T g.row.E g.F.Files g.F.Files-dict g.T.Link g.T.Link-dict g.E.Link g.E.Link-dict g.dyn-1 in
    rw c.lifted-in-Back.ensures (held_does _ c.requires.asks (sym none) Back _ _ (rw (are, c.in-Back.is) at c.in_ok-hold.ensures.asks) c.back_up.result (comes_asking _ [] (session.state c.hold.new.self) (session.state c.back_up.new.self) c.back_up.result c.back_up.ensures.comes))

pub take_answers-requires-clause-shown : goal.take_answers-requires-clause-shown
take_answers-requires-clause-shown g c =
    let layers = each (λ b. (goal.Layer-dyn g (b.vtable, b.value)).state b.value) c.args.self.now.desk.questions.store.now.layers.items in
    let at = c.args.self.now.desk.questions.context in
    let pick : List ℕ → Option Shown = λ name. option_map (shown layers at name) (kind layers at name) in
    let are = c.in_ok-questions.ensures ∙ ap (filter_map pick) (c.as_slice-2.ensures ∙ c.in_ok-prepared.ensures.names) in
    are ∙ sym (ap to_show c.in_ok-hold.ensures.asks.kept)

pub take_answers-requires-clause-distinct : goal.take_answers-requires-clause-distinct
take_answers-requires-clause-distinct g c =
    let layers = each (λ b. (goal.Layer-dyn g (b.vtable, b.value)).state b.value) c.args.self.now.desk.questions.store.now.layers.items in
    let at = c.args.self.now.desk.questions.context in
    let pick : List ℕ → Option Shown = λ name. option_map (shown layers at name) (kind layers at name) in
    let are = c.in_ok-questions.ensures ∙ ap (filter_map pick) (c.as_slice-2.ensures ∙ c.in_ok-prepared.ensures.names) in
    subst (λ (qs : List Shown). AreDistinct (each (λ s. s.name) qs)) (sym are) (shown_distinct layers at c.args.self.now.asking.now.prepared c.in_ok-prepared.ensures.distinct)

pub returns-clause-does : goal.returns-clause-does
returns-clause-does g c =
    let layers = each (λ b. (goal.Layer-dyn g (b.vtable, b.value)).state b.value) c.args.self.now.desk.questions.store.now.layers.items in
    let at = c.args.self.now.desk.questions.context in
    let pick : List ℕ → Option Shown = λ name. option_map (shown layers at name) (kind layers at name) in
    let are = c.in_ok-questions.ensures ∙ ap (filter_map pick) (c.as_slice-2.ensures ∙ c.in_ok-prepared.ensures.names) in
    let none = rw (c.in_default.is, c.as_slice.ensures ∙ c.in_ok-prepared.ensures.names) at c.in_ok-name.ensures in
    rw c.lifted-in-Answers.ensures
    (held_does _ c.requires.asks (sym none) (Answers c.in-Answers.answers) _ _ (rw (are, c.in-Answers.is) at c.in_ok-hold.ensures.asks) c.take_answers.result (rw are at c.take_answers.ensures.comes))
