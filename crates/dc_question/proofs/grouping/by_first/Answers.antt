use Rattle.std.proofs.Common.{◌∷◌, ◌++◌, [], ap, ◌∙◌, arith}
use Rattle.dc_question.specs.Losses.{behind, held_at}
use Rattle.dc_question.proofs.GroupLemmas.{behind_more, none_held}
use Rattle.dc_question.proofs.grouping.by_first.Goals as goal

pub loop-pair-init : goal.loop-pair-init
loop-pair-init c = λ t. ap (λ m. held_at m t) c.new-held.ensures ∙ none_held t

pub loop-pair-preserved : goal.loop-pair-preserved
loop-pair-preserved c = λ t.
    c.in_ok-add_behind.ensures t ∙ ap (λ x. x ++ behind t (c.pair-item.result ∷ [])) (c.loop-pair.invariant t)
    ∙ behind_more t c.args.pairs.now c.loop-pair.pair-index c.pair-item.result (omega arith) c.pair-item.is
