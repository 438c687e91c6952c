use Rattle.std.proofs.Common.{◌≡◌}
use Rattle.std.specs.List.{flat_map, range_with_len}
use Rattle.dc_text.specs.Lines.{text_of}
use Rattle.dc_drill.specs.Commands.{lines_at}
use Rattle.dc_drill.proofs.commands.commands_text.Given as goal

abbrev pub invariant-loop-before : goal.invariant-loop-before
invariant-loop-before l = l.text ≡ text_of (flat_map lines_at (range_with_len 1 l.before))
