use Rattle.dc_pipes.proofs.StreamLemmas.{written-more}
use Rattle.dc_pipes.proofs.streams.write_all.Goals as goal

pub loop-preserved : goal.loop-preserved
loop-preserved g c = written-more _ _ _ _ _ _ c.loop.invariant c.in_ok-rest.ensures
