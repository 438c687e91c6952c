use Rattle.std.proofs.Common.{◌≡◌, take}
use Rattle.dc_cli.proofs.copying.copies.Given as goal

abbrev pub invariant-loop-word : goal.invariant-loop-word
invariant-loop-word l = l.list ≡ take l.word-index l.words
