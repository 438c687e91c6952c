use Rattle.std.proofs.Common.{length}
use Rattle.dc_cli.proofs.RunLemmas.{HasRead}
use Rattle.dc_cli.proofs.run_words.read_run.Given as goal

abbrev pub invariant-loop-rest : goal.invariant-loop-rest
invariant-loop-rest l = HasRead l.words l.rest l.options

abbrev pub decreases-loop-rest : goal.decreases-loop-rest
decreases-loop-rest l = length l.rest
