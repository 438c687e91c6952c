use Rattle.std.proofs.Common.{[], ◌∷◌, ◌++◌, ◌∙◌, arith}
use Rattle.dc_question.specs.Losses.{held_at}
use Rattle.dc_question.proofs.LeaveLemmas.{each_more}
use Rattle.dc_question.proofs.grouping.grouped_by.Goals as goal

pub loop-first-preserved : goal.loop-first-preserved
loop-first-preserved c =
    c.in_ok-push.ensures.ok ∙ (λ i. c.loop-first.invariant i ++ (c.in_ok-copy.ensures i, c.in_ok-at.ensures i) ∷ [])
    ∙ each_more (λ t. (t, held_at c.args.held.now t)) c.args.firsts.now c.loop-first.first-index c.first-item.result (omega arith) c.first-item.is
