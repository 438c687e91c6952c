use Rattle.dc_dump.proofs.SayLemmas.{read_again, read_more, read_said}
use Rattle.dc_dump.proofs.saying.selections.Goals as goal

pub loop-name-preserved : goal.loop-name-preserved
loop-name-preserved g c =
    read_more _ _ c.args.names.now _ c.as_slice-name-items.ensures c.loop-name.name-index c.name-item.result c.loop-name.said c.say.new.said c.loop-name-test.true c.name-item.is
    c.loop-name.invariant c.in_ok-say.ensures.text c.in_ok-say.ensures.left_out c.in_ok-say.ensures.held

pub returns-clause-said : goal.returns-clause-said
returns-clause-said g c = read_said _ _ c.args.names.now _ c.as_slice-name-items.ensures c.loop-name.name-index c.loop-name.said c.loop-name-test.false c.loop-name.invariant

pub returns-clause-again : goal.returns-clause-again
returns-clause-again g c = read_again _ _ c.args.names.now _ c.as_slice-name-items.ensures c.loop-name.name-index c.loop-name.said c.loop-name-test.false c.loop-name.invariant
