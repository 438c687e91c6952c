use Rattle.std.proofs.Common.{◌≡◌, ◌≤◌, ◌*◌, length}
use Rattle.std.specs.List.{flat_map, range_with_len}
use Rattle.dc_drill.specs.Commands.{lines_at}
use Rattle.dc_drill.proofs.commands.command_count.Given as goal

-- so far they are right, and few enough to be counted
abbrev pub invariant-loop-before : goal.invariant-loop-before
invariant-loop-before l = (l.sum ≡ length (flat_map lines_at (range_with_len 1 l.before))) × (l.sum ≤ 6 * l.before)
