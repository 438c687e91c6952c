use Rattle.dc_run.proofs.PlaceLemmas.{all_once, each_once}
use Rattle.dc_run.specs.Roots.{plans_in}
use Rattle.dc_run.proofs.laws.the_plans_of_a_run_are_apart.Goals as goal

pub returns : goal.returns
returns c = record { plan = each_once; run = λ used path old new roots started. all_once (plans_in roots) started.once }
