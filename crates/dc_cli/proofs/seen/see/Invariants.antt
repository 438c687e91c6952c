use Rattle.std.proofs.Common.{length}
use Rattle.dc_cli.proofs.ReadingLemmas.{HasSeen}
use Rattle.dc_cli.proofs.seen.see.Given as goal

abbrev pub invariant-loop-rest : goal.invariant-loop-rest
invariant-loop-rest g l = HasSeen g.S.Seen.with_word l.fn.first l.words l.rest l.seen

abbrev pub decreases-loop-rest : goal.decreases-loop-rest
decreases-loop-rest g l = length l.rest
