use Rattle.std.proofs.Common.{◌≡◌, true, length}
use Rattle.std.specs.List.{AllByRecursion}
use Rattle.dc_conf.specs.Nodes.{is_node}
use Rattle.dc_conf.proofs.PlanLemmas.{Planning}
use Rattle.dc_conf.proofs.resolving.plans_of.Given as goal

abbrev pub invariant-loop-rest : goal.invariant-loop-rest
invariant-loop-rest l = record {
  plans : Planning l.nodes l.specs l.plans l.rest l.roots;
  known : AllByRecursion (λ root. is_node l.nodes root ≡ true) l.rest;
}

abbrev pub decreases-loop-rest : goal.decreases-loop-rest
decreases-loop-rest l = length l.rest
