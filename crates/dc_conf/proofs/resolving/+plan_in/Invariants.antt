use Rattle.std.proofs.Common.{drop, length, ◌-◌}
use Rattle.dc_conf.specs.Configuration.{ArePlans}
use Rattle.dc_conf.specs.Trees.{shapes}
use Rattle.dc_conf.proofs.PlanLemmas.{rank}
use Rattle.dc_conf.proofs.resolving.+plan_in.Given as goal

abbrev pub decreases-plan_in : goal.decreases-plan_in
decreases-plan_in l = rank l.nodes.now l.name.now

abbrev pub invariant-loop-index : goal.invariant-loop-index
invariant-loop-index l = ArePlans l.nodes l.specs (shapes l.plans) (drop (length l.names - l.index) l.names)
