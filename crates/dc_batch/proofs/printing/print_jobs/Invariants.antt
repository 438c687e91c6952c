use Rattle.std.proofs.Common.{◌≡◌, take}
use Rattle.dc_batch.specs.Printed.{canon}
use Rattle.dc_batch.proofs.printing.print_jobs.Given as goal

abbrev pub invariant-loop-job : goal.invariant-loop-job
invariant-loop-job l = l.out ≡ canon (take l.job-index l.jobs)
