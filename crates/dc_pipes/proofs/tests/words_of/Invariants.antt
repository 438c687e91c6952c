use Rattle.std.proofs.Common.{◌<◌, length}
use Rattle.dc_pipes.proofs.tests.words_of.Given as goal

abbrev pub invariant-loop-argument : goal.invariant-loop-argument
invariant-loop-argument l = 0 < length l.words
