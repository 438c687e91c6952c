-- The jobs of a text, or its first fault.
use Rattle.std.specs.Prelude.{◌≡◌, ℕ, List, Result, Ok, Err}
use Rattle.dc_text.specs.Faults.{AllStand, IsFirstFault}
use Rattle.dc_batch.specs.Forms.{forms, lines_in}
use Rattle.dc_batch.specs.Jobs.{jobs_in}
use Rattle.dc_batch.specs.JobFaults.{Stands, HasFault}
use Rattle.dc_batch.specs.declared.faults.JobError.{JobError}
use Rattle.dc_batch.specs.declared.faults.JobError.TheVariants.{Bad, OutOfMemory}
use Rattle.dc_batch.specs.declared.faults.JobKind.{JobKind}
use Rattle.dc_batch.specs.declared.forms.Line.{Line}
use Rattle.dc_batch.specs.declared.job.Job.{Job}

-- each line stands where it does, and these are the jobs
pub record Reads (text : List ℕ) (jobs : List Job) : Type 0 where
  pub stand : AllStand Stands (lines_in text)
  pub are : jobs ≡ jobs_in (forms (lines_in text))

-- the first line with a fault has this number and this fault
pub record IsBad (text : List ℕ) (number : ℕ) (kind : JobKind) : Type 0 where
  pub line : Line
  pub numbered : line.number ≡ number
  pub first : IsFirstFault Stands HasFault (lines_in text) line kind

-- What is answered of a text: its jobs, or its first fault. Memory may run out.
abbrev pub IsAnswer : List ℕ → Result (List Job) JobError → Type 0
IsAnswer text (Ok jobs) = Reads text jobs
IsAnswer text (Err (Bad number kind)) = IsBad text number kind
IsAnswer text (Err OutOfMemory) = Unit {0}
