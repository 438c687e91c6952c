use Rattle.dc_batch.proofs.ReadAgain.{read_again, sound}
use Rattle.dc_batch.proofs.laws.jobs_can_be_read.Goals as goal

pub returns : goal.returns
returns c = record { sound = sound; printed = read_again }
