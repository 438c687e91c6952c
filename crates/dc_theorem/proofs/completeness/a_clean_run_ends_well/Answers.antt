use Rattle.dc_theorem.proofs.CleanLaw.{ends_well}
use Rattle.dc_theorem.proofs.completeness.a_clean_run_ends_well.Goals as goal

pub returns : goal.returns
returns c = ends_well
