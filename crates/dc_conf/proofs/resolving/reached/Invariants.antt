use Rattle.std.proofs.Common.{◌≡◌, length, ◌++◌}
use Rattle.std.specs.List.{filter, list_any}
use Rattle.dc_conf.specs.Nodes.{leads_to}
use Rattle.dc_conf.proofs.resolving.reached.Given as goal

abbrev pub invariant-loop-rest : goal.invariant-loop-rest
invariant-loop-rest l = l.specs ++ filter (λ spec. list_any (λ root. leads_to l.web root spec.name) l.roots) l.rest
    ≡ filter (λ spec. list_any (λ root. leads_to l.web root spec.name) l.roots) l.databases

abbrev pub decreases-loop-rest : goal.decreases-loop-rest
decreases-loop-rest l = length l.rest
