use Rattle.std.proofs.Common.{◌≡◌, take, map}
use Rattle.dc_cli.specs.DatabaseReading.{line_of}
use Rattle.dc_cli.proofs.copy_words.lines.Given as goal

abbrev pub invariant-loop-value : goal.invariant-loop-value
invariant-loop-value l = l.lines ≡ map (λ placed. line_of placed.word) (take l.value-index l.values)
