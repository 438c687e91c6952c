use Rattle.std.proofs.Common.{◌≡◌, length}
use Rattle.dc_batch.specs.Forms.{forms}
use Rattle.dc_batch.specs.Jobs.{has_field}
use Rattle.dc_batch.specs.JobFaults.{until_blank}
use Rattle.dc_batch.proofs.reading.has_field.Given as goal

abbrev pub invariant-loop-rest : goal.invariant-loop-rest
invariant-loop-rest l = has_field l.field (until_blank (forms l.rest)) ≡ has_field l.field (until_blank (forms l.lines))

abbrev pub decreases-loop-rest : goal.decreases-loop-rest
decreases-loop-rest l = length l.rest
