use Rattle.dc_text.proofs.SettledLemmas.{shown-step, shown-end}
use Rattle.dc_text.proofs.settling.show_newlines.Goals as goal

pub loop-line-preserved : goal.loop-line-preserved
loop-line-preserved c =
    shown-step c.loop-line.text c.loop-line.rest.now c.in-Some.line.now c.in-Some.after.now _ _ _ c.in-Some.ensures.0 c.in-Some.ensures.1 c.in-Some.ensures.2
    c.loop-line.invariant c.in_ok-append.ensures.ok c.in_ok-append-2.ensures.ok

pub returns : goal.returns
returns c = shown-end c.loop-line.text c.loop-line.rest.now _ _ c.in_default.ensures c.loop-line.invariant c.in_ok-append-3.ensures.ok
