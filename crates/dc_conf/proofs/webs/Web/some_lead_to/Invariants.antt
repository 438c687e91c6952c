use Rattle.std.proofs.Common.{◌≡◌, length}
use Rattle.std.specs.List.{list_any}
use Rattle.dc_conf.specs.Nodes.{leads_to}
use Rattle.dc_conf.proofs.webs.Web.some_lead_to.Given as goal

abbrev pub invariant-loop-rest : goal.invariant-loop-rest
invariant-loop-rest l = list_any (λ other. leads_to l.self other l.name) l.rest ≡ list_any (λ other. leads_to l.self other l.name) l.names

abbrev pub decreases-loop-rest : goal.decreases-loop-rest
decreases-loop-rest l = length l.rest
