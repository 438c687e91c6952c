use Rattle.dc_text.proofs.SettledLemmas.{settled-step, settled-end}
use Rattle.dc_text.proofs.settling.with_newlines.Goals as goal

pub loop-plain-preserved-in-Some-behind_n : goal.loop-plain-preserved-in-Some-behind_n
loop-plain-preserved-in-Some-behind_n c =
    settled-step c.loop-plain.text c.loop-plain.rest.now c.in-Some.plain.now c.in-Some.after.now c.in-Some-behind_n.tail.now _ _ _ 10 c.in-Some.ensures.0 c.in-Some.ensures.1
    c.in-Some.ensures.2 c.loop-plain.invariant c.in_ok-append.ensures.ok c.in_ok-push-in-Some-behind_n.ensures.ok c.in-Some-behind_n.ensures.0

pub loop-plain-preserved : goal.loop-plain-preserved
loop-plain-preserved c =
    settled-step c.loop-plain.text c.loop-plain.rest.now c.in-Some.plain.now c.in-Some.after.now c.in-Some.after.now _ _ _ 92 c.in-Some.ensures.0 c.in-Some.ensures.1
    c.in-Some.ensures.2 c.loop-plain.invariant c.in_ok-append.ensures.ok c.in_ok-push-in-None.ensures.ok c.in-None.ensures

pub returns : goal.returns
returns c = settled-end c.loop-plain.text c.loop-plain.rest.now _ _ c.in_default.ensures c.loop-plain.invariant c.in_ok-append-2.ensures.ok
