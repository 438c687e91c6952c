use Rattle.std.proofs.Common.{◌≡◌, length}
use Rattle.dc_text.specs.Faults.{run}
use Rattle.dc_batch.specs.Machine.{step, at_start}
use Rattle.dc_batch.proofs.reading.take_lines.Given as goal

abbrev pub invariant-loop-rest : goal.invariant-loop-rest
invariant-loop-rest l = run step l.rest l.reader ≡ run step l.lines at_start

abbrev pub decreases-loop-rest : goal.decreases-loop-rest
decreases-loop-rest l = length l.rest
