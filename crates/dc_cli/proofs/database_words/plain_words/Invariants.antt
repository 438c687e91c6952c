use Rattle.std.proofs.Common.{◌≡◌, ◌≤◌, ◌+◌, ◌-◌, ◌++◌, length}
use Rattle.dc_cli.specs.DatabaseWords.{placed_from, plain_of}
use Rattle.dc_cli.proofs.database_words.plain_words.Given as goal

abbrev pub invariant-loop-rest : goal.invariant-loop-rest
invariant-loop-rest l = record {
  within : length l.rest ≤ length l.words;
  so_far : l.plain ++ plain_of (placed_from (1 + (length l.words - length l.rest)) l.rest) ≡ plain_of (placed_from 1 l.words);
}

abbrev pub decreases-loop-rest : goal.decreases-loop-rest
decreases-loop-rest l = length l.rest
