use Rattle.dc_pipes.specs.Streams.{IsWritten}
use Rattle.dc_pipes.proofs.streams.write_all.Given as goal

abbrev pub invariant-loop : goal.invariant-loop
invariant-loop g l = IsWritten (g.W.Write.contents l.fn.output) (g.W.Write.contents l.output) l.bytes l.rest
