use Rattle.std.proofs.Common.{◌++◌, [], take, length, sym, ap, ◌∙◌, arith, rules}
use Rattle.std.specs.Prelude.{zip}
use Rattle.std.specs.List.{filter_map, cons_option}
use Rattle.std.proofs.Math.Seq.{take-length}
use Rattle.std.proofs.lemmas.List.{length_push}
use Rattle.std.proofs.lemmas.Slice.Zip.{zip_turn, zip_end, length-zip, get_or-zip}
use Rattle.dc_question.proofs.LeaveLemmas.{filter_map_more}
use Rattle.dc_session.specs.Asking.{value_given}
use Rattle.dc_session.proofs.going.values_given.Goals as goal

pub loop-question-preserved : goal.loop-question-preserved
loop-question-preserved c =
    let questions = c.args.questions.now in
    let answers = c.args.answers.now in
    let yielded = c.loop-question.yielded in
    let question = c.in-Some.question.now in
    let answer = c.in-Some.answer.now in
    let transition = zip_turn questions answers yielded c.into_iter-question-iterator.result c.loop-question.question-iterator c.next.new.self c.next.result (search rules) (search rules) c.loop-question.yielded_by (c.in-Some.question, c.in-Some.answer) c.in-Some.is c.next.ensures.steps in
    c.in_ok-add_value.ensures
    ∙ ap (λ vs. vs ++ cons_option (value_given question answer) []) c.loop-question.invariant
    ∙ filter_map_more (λ pair. value_given pair.0 pair.1) (zip questions answers) (length yielded) (question, answer) (omega (arith, length-zip questions answers, transition.0, transition.1))
    ((λ i. (transition.2 question i, transition.3 answer i)) ∙ sym (get_or-zip questions answers (length yielded) (question, answer) transition.0 transition.1))
    ∙ ap (λ n. filter_map (λ pair. value_given pair.0 pair.1) (take n (zip questions answers))) (sym (length_push yielded (c.in-Some.question, c.in-Some.answer)))

pub returns : goal.returns
returns c =
    let questions = c.args.questions.now in
    let answers = c.args.answers.now in
    let yielded = c.loop-question.yielded in
    let all = zip_end questions answers yielded c.into_iter-question-iterator.result c.loop-question.question-iterator c.next.new.self c.next.result (search rules) (search rules) c.loop-question.yielded_by c.in-None.is c.next.ensures.steps ∙ sym (length-zip questions answers) in
    c.loop-question.invariant ∙ ap (λ n. filter_map (λ pair. value_given pair.0 pair.1) (take n (zip questions answers))) all ∙ ap (filter_map (λ pair. value_given pair.0 pair.1)) (take-length (zip questions answers))
