use Rattle.dc_theorem.proofs.WriteLaw.{none_refused}
use Rattle.dc_theorem.proofs.completeness.a_refusal_of_memory_ends_the_run.Goals as goal

pub returns : goal.returns
returns c = none_refused
