use Rattle.std.proofs.Common.{[], ◌++◌, map as each, ap, ◌∙◌, arith}
use Rattle.std.specs.Prelude.{option_map}
use Rattle.std.specs.List.{cons_option}
use Rattle.dc_question.specs.Ownership.{loser_of}
use Rattle.dc_question.proofs.LeaveLemmas.{filter_map_more}
use Rattle.dc_question.proofs.questions.Questions.pairs_lost.Goals as goal

pub loop-name-preserved : goal.loop-name-preserved
loop-name-preserved g c =
    let layers = each (λ b. (goal.Layer-dyn g (b.vtable, b.value)).state b.value) c.args.self.now.store.now.layers.items in
    c.in_ok-add_lost.ensures
    ∙ ap (λ l. l ++ cons_option (option_map (λ t. (t, c.name-item.result)) (loser_of layers c.args.self.now.context c.args.owner.now c.name-item.result)) []) c.loop-name.invariant
    ∙ filter_map_more (λ name. option_map (λ t. (t, name)) (loser_of layers c.args.self.now.context c.args.owner.now name)) c.args.names.now c.loop-name.name-index c.name-item.result (omega arith) c.name-item.is
