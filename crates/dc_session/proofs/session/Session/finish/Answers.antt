use Rattle.std.proofs.Common.{◌∙◌, refl, arith}
use Rattle.dc_session.proofs.AskingLemmas.{marked_none, marked_more, marked_others, marked_kept, others_named}
use Rattle.dc_session.proofs.session.Session.finish.Goals as goal

pub loop-name-init : goal.loop-name-init
loop-name-init g c = (marked_none _ _, refl)

pub loop-name-preserved : goal.loop-name-preserved
loop-name-preserved g c = (
  marked_more _ _ _ _ c.loop-name.name-index c.name-item.result (omega arith) c.name-item.is c.loop-name.invariant.0 c.in_ok-mark_seen.ensures.others c.in_ok-mark_seen.ensures.kept c.in_ok-mark_seen.ensures.ok,
  c.in_ok-mark_seen.ensures.borrows ∙ c.loop-name.invariant.1,
)

pub returns-in_err-mark_seen-clause-others : goal.returns-in_err-mark_seen-clause-others
returns-in_err-mark_seen-clause-others g c =
    others_named _ _ _ _ (c.as_slice-name-items.ensures ∙ c.in_ok-asked.ensures.names)
    (marked_others _ _ _ _ c.loop-name.name-index c.name-item.result (omega arith) c.name-item.is c.loop-name.invariant.0 c.in_err-mark_seen.ensures.others c.in_err-mark_seen.ensures.kept)

pub returns-in_err-mark_seen-clause-kept : goal.returns-in_err-mark_seen-clause-kept
returns-in_err-mark_seen-clause-kept g c =
    marked_kept _ _ _ _ c.loop-name.name-index c.name-item.result (omega arith) c.name-item.is c.loop-name.invariant.0 c.in_err-mark_seen.ensures.others c.in_err-mark_seen.ensures.kept

pub returns-in_err-mark_seen-clause-borrows : goal.returns-in_err-mark_seen-clause-borrows
returns-in_err-mark_seen-clause-borrows g c = c.in_err-mark_seen.ensures.borrows ∙ c.loop-name.invariant.1

pub returns-clause-others : goal.returns-clause-others
returns-clause-others g c = others_named _ _ _ _ (c.as_slice-name-items.ensures ∙ c.in_ok-asked.ensures.names) c.loop-name.invariant.0.others

pub returns-clause-kept : goal.returns-clause-kept
returns-clause-kept g c = c.loop-name.invariant.0.kept

pub returns-clause-borrows : goal.returns-clause-borrows
returns-clause-borrows g c = c.loop-name.invariant.1
